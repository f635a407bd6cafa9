-- The commands: what a payload says. What an opcode is, is in the crate `command`. Section 3 of docs/RULES.md; `execute` of the original. No definition here sees the picture (rule 3.17). Definitions only.
use Rattle.std.specs.Prelude.{ℕ, ◌+◌, ◌/◌, ◌%◌, Bool, cond, List, [], ◌∷◌, ◌++◌, map, eqb, ltb, length, drop, Some, None, Result, Ok, Err}
use Rattle.std.specs.Prelude as std
use Rattle.std.proofs.Math.Option.{Option, none, some}
use Rattle.screen.specs.declared.plane.Rgba.{Rgba}
use Rattle.settings.specs.declared.Settings.{Settings}
use Rattle.settings.specs.Settings.{mode_verdict, with_mode, matrix_verdict, with_matrix, light_verdict, with_light}
use Rattle.store.specs.declared.Kind.{Kind}
use Rattle.store.specs.declared.Kind.TheVariants.{Texture, Model}
use Rattle.store.specs.Uploads.{Whole}
use Rattle.store.specs.Slots.{area_of, whole_of}
use Rattle.verdict.specs.declared.Reason.TheVariants.{UnknownOpcode, WrongLength, OutOfRange}
use Rattle.verdict.specs.declared.Refused.{Refused}
use Rattle.payload.specs.Words.{Verdict, refused, done, passed, when_done, word_at, at_most}
use Rattle.flat.specs.Words.{flat_verdict, tri_of}
use Rattle.sprite.specs.Words.{fit_verdict, sprite_of, sprite_verdict}
use Rattle.stroke.specs.Strokes.{Stroke}
use Rattle.decide.specs.Verdicts.{transformed_verdict, textured_verdict}
use Rattle.judge.specs.Judge.{model_verdict}
use Rattle.draw.specs.Draws.{transformed_strokes, textured_strokes, model_strokes, has_in}
use Rattle.command.specs.declared.Setting.{Setting}
use Rattle.command.specs.declared.Setting.TheVariants as setting
use Rattle.command.specs.declared.Draw.{Draw}
use Rattle.command.specs.declared.Draw.TheVariants as draw
use Rattle.command.specs.declared.Command.{Command}
use Rattle.command.specs.declared.Command.TheVariants.{Sets, Loads, Paints}
use Rattle.command.specs.Command.{command_of, setting_words, draw_words}
use Rattle.execute.specs.Paints.{Paint, fill, far, sprite, flat, stroked}

-- what a draw may ask: the upload of a kind that is held under a number, if one is
abbrev pub Look : Type 0
Look = Kind → ℕ → Option Whole

-- an upload that passed the checks of its command
pub record Load : Type 0 where
  pub kind : Kind
  pub whole : Whole

-- what a command says: a verdict, the settings after it, what is painted, and what is to be kept
pub record Told : Type 0 where
  pub verdict : Verdict
  pub settings : Settings
  pub paints : List Paint
  pub load : Option Load

abbrev pub tells : Verdict → Settings → List Paint → Told
tells v s ps = record { verdict = v; settings = s; paints = ps; load = none }

-- reasons 3 and 4
abbrev pub unknown : Verdict
unknown = refused UnknownOpcode 0

abbrev pub wrong_length : Verdict
wrong_length = refused WrongLength 0

-- what a call that answers a value came to; and the value, or the old one if it is refused
abbrev pub verdict_by : {A : Type 0} → Result A Refused → Verdict
verdict_by (Ok a) = done
verdict_by (Err e) = Err e

abbrev pub value_or : {A : Type 0} → A → Result A Refused → A
value_or old (Ok a) = a
value_or old (Err e) = old

-- a if the payload has exactly n words, else b
abbrev pub of_length : {A : Type 0} → ℕ → List ℕ → A → A → A
of_length n p a b = cond (eqb (length p) n) a b

-- ---- those that set: 01, 2 words: (0, 0..1) shading mode; (1, 0..1) lighting. 02, 17 words: matrix 0..2 and 16 floats. 15, 17 words: light 0..7, switch 0..1, 15 floats
abbrev pub set_by : Settings → Setting → List ℕ → Result Settings Refused
set_by s setting.Mode p = passed (mode_verdict p) (with_mode s p)
set_by s setting.Matrix p = passed (matrix_verdict p) (with_matrix s p)
set_by s setting.Light p = passed (light_verdict p) (with_light s p)

unfoldable pub settings_after : Settings → Setting → List ℕ → Result Settings Refused
settings_after s x p = of_length (setting_words x) p (set_by s x p) (refused WrongLength 0)

-- ---- those that load
-- rule 3.13: 17 tests the least length, then width 0, height 0, width above 1024, height above 1024, then the exact length
unfoldable pub texture_verdict : List ℕ → Verdict
texture_verdict p =
    let w = word_at p 1 in
    let h = word_at p 2 in
    cond (ltb (length p) 3) wrong_length
    (cond (eqb w 0) (refused OutOfRange 1)
    (cond (eqb h 0) (refused OutOfRange 2)
    (cond (ltb 1024 w) (refused OutOfRange 1)
    (cond (ltb 1024 h) (refused OutOfRange 2)
    (of_length (3 + area_of Texture w h) p done wrong_length)))))

-- rule 3.14: 1A tests the least length, then its count, then the exact length
unfoldable pub count_verdict : List ℕ → Verdict
count_verdict p =
    cond (ltb (length p) 2) wrong_length
    (cond (eqb (word_at p 1) 0) (refused OutOfRange 1)
    (of_length (2 + area_of Model (word_at p 1) 0) p done wrong_length))

abbrev pub texture_in : List ℕ → Load
texture_in p = record { kind = Texture; whole = whole_of (word_at p 0) (word_at p 1) (word_at p 2) (drop 3 p) }

abbrev pub model_in : List ℕ → Load
model_in p = record { kind = Model; whole = whole_of (word_at p 0) (word_at p 1) 0 (drop 2 p) }

abbrev pub loading : Verdict → Settings → Load → Told
loading v s l = record { verdict = v; settings = s; paints = []; load = when_done v (some l) none }

abbrev pub load_told : Settings → Kind → List ℕ → Told
load_told s Texture p = loading (texture_verdict p) s (texture_in p)
load_told s Model p = loading (count_verdict p) s (model_in p)

-- ---- those that paint: a verdict, and paints
pub record Painted : Type 0 where
  pub verdict : Verdict
  pub paints : List Paint

abbrev pub painted : Verdict → List Paint → Painted
painted v ps = record { verdict = v; paints = ps }

abbrev pub blank : Verdict → Painted
blank v = painted v []

-- `p[1].to_be_bytes()`
unfoldable pub rgba_of : ℕ → Rgba
rgba_of w = record { r = w / 16777216; g = w / 65536 % 256; b = w / 256 % 256; a = w % 256 }

-- rule 3.6, for 04: what the two lowest flags ask for is painted, and flags above 3 are refused
abbrev pub when : Bool → Paint → List Paint
when b a = cond b (a ∷ []) []

unfoldable pub clear_paints : List ℕ → List Paint
clear_paints p = when (eqb (word_at p 0 % 2) 1) (fill (rgba_of (word_at p 1))) ++ when (eqb (word_at p 0 / 2 % 2) 1) far

unfoldable pub clear_painted : List ℕ → Painted
clear_painted p = painted (at_most p 0 3) (clear_paints p)

-- rule 3.10: 10, with the texture that is held under word 0, if one is
unfoldable pub sprite_paints : List ℕ → Option Whole → List Paint
sprite_paints p none = []
sprite_paints p (some u) = when_done (fit_verdict p u.wide u.high) (sprite (sprite_of p u.wide) u.words ∷ []) []

unfoldable pub sprite_painted : Look → List ℕ → Painted
sprite_painted look p = painted (sprite_verdict p (look Texture (word_at p 0))) (sprite_paints p (look Texture (word_at p 0)))

-- rule 3.10: 12
unfoldable pub flat_painted : List ℕ → Painted
flat_painted p = painted (flat_verdict p) (when_done (flat_verdict p) (flat (tri_of p) ∷ []) [])

-- the float draws, by their strokes
abbrev pub stroked_by : Verdict → List Stroke → Painted
stroked_by v ks = painted v (map stroked ks)

-- rule 3.10: 14 and 16; 18 and 19; 1B
unfoldable pub transformed_painted : Settings → Bool → List ℕ → Painted
transformed_painted s normal p = stroked_by (transformed_verdict p normal s.matrices) (transformed_strokes s p normal)

unfoldable pub textured_painted : Look → Settings → Bool → List ℕ → Painted
textured_painted look s normal p =
    stroked_by (textured_verdict p normal (has_in (look Texture) (word_at p 0)) s.matrices) (textured_strokes s p normal (look Texture (word_at p 0)))

unfoldable pub model_painted : Look → Settings → List ℕ → Painted
model_painted look s p =
    stroked_by (model_verdict p (has_in (look Texture)) s.matrices (look Model (word_at p 0))) (model_strokes s p (look Texture) (look Model (word_at p 0)))

abbrev pub drawn_by : Look → Settings → Draw → List ℕ → Painted
drawn_by look s draw.Clear p = clear_painted p
drawn_by look s draw.Sprite p = sprite_painted look p
drawn_by look s draw.Flat p = flat_painted p
drawn_by look s (draw.Transformed normal) p = transformed_painted s normal p
drawn_by look s (draw.Textured normal) p = textured_painted look s normal p
drawn_by look s draw.Model p = model_painted look s p

unfoldable pub painted_by : Look → Settings → Draw → List ℕ → Painted
painted_by look s d p = of_length (draw_words d) p (drawn_by look s d p) (blank wrong_length)

-- ---- `execute`
abbrev pub told_by : Settings → Painted → Told
told_by s a = tells a.verdict s a.paints

abbrev pub told_of : Settings → Result Settings Refused → Told
told_of s r = tells (verdict_by r) (value_or s r) []

-- rule 3.1: any other opcode is refused
abbrev pub told_as : Look → Settings → std.Option Command → List ℕ → Told
told_as look s (Some (Sets x)) p = told_of s (settings_after s x p)
told_as look s (Some (Loads k)) p = load_told s k p
told_as look s (Some (Paints d)) p = told_by s (painted_by look s d p)
told_as look s None p = tells unknown s []

unfoldable pub told : Look → Settings → ℕ → List ℕ → Told
told look s op p = told_as look s (command_of op) p
