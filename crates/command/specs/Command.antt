-- What an opcode is, and how many payload words a command has. Section 3 of docs/RULES.md; `execute` of the original. Definitions only.
use Rattle.std.specs.Prelude.{ℕ, true, false, cond, eqb, Option, Some, None}
use Rattle.store.specs.declared.Kind.TheVariants.{Texture, Model}
use Rattle.command.specs.declared.Setting.{Setting}
use Rattle.command.specs.declared.Setting.TheVariants as setting
use Rattle.command.specs.declared.Draw.{Draw}
use Rattle.command.specs.declared.Draw.TheVariants as draw
use Rattle.command.specs.declared.Command.{Command}
use Rattle.command.specs.declared.Command.TheVariants.{Sets, Loads, Paints}

-- rule 3.1: what an opcode is. No other definition of the machine tells commands apart by it. 04 clears, 01, 02 and 15 set mode, matrix and light, 10 is a sprite, 12 is flat,
-- 14 and 16 are transformed, 16 with normals; 18 and 19 textured, 19 with normals; 17 and 1A load a texture and a model, and 1B draws one; any other is no command
unfoldable pub command_of : ℕ → Option Command
command_of op =
    cond (eqb op 0x01) (Some (Sets setting.Mode))
    (cond (eqb op 0x02) (Some (Sets setting.Matrix))
    (cond (eqb op 0x04) (Some (Paints draw.Clear))
    (cond (eqb op 0x10) (Some (Paints draw.Sprite))
    (cond (eqb op 0x12) (Some (Paints draw.Flat))
    (cond (eqb op 0x14) (Some (Paints (draw.Transformed false)))
    (cond (eqb op 0x15) (Some (Sets setting.Light))
    (cond (eqb op 0x16) (Some (Paints (draw.Transformed true)))
    (cond (eqb op 0x17) (Some (Loads Texture))
    (cond (eqb op 0x18) (Some (Paints (draw.Textured false)))
    (cond (eqb op 0x19) (Some (Paints (draw.Textured true)))
    (cond (eqb op 0x1a) (Some (Loads Model))
    (cond (eqb op 0x1b) (Some (Paints draw.Model))
    None))))))))))))

-- rule 3.2: how many payload words a command that sets has, and one that paints
abbrev pub setting_words : Setting → ℕ
setting_words setting.Mode = 2
setting_words setting.Matrix = 17
setting_words setting.Light = 17

abbrev pub draw_words : Draw → ℕ
draw_words draw.Clear = 3
draw_words draw.Sprite = 7
draw_words draw.Flat = 11
draw_words (draw.Transformed normal) = cond normal 21 12
draw_words (draw.Textured normal) = cond normal 29 20
draw_words draw.Model = 2
