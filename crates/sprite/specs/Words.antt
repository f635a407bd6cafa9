-- Command 10: what its seven words say, whether they are refused, and what they leave. Definitions only.
use Rattle.std.specs.Prelude.{cond, List, [], ◌∷◌, ℕ, ◌+◌, eqb, leb, get_or}
use Rattle.std.proofs.Math.Option.{Option, none, some}
use Rattle.verdict.specs.Verdict.{Verdict, refused, when_done}
use Rattle.verdict.specs.declared.Reason.TheVariants.{OutOfRange, NotHeld}
use Rattle.store.specs.Uploads.{Whole}
use Rattle.flat.specs.Words.{signed_at, first_out}
use Rattle.sprite.specs.declared.words.Sprite.{Sprite}
use Rattle.sprite.specs.Sprite.{sprite_plane}

-- rule 11.1: the rectangle in the texture, and where it goes, for a texture with `stride` texels in a row
unfoldable pub sprite_of : List ℕ → ℕ → Sprite
sprite_of p stride =
    record {
      stride = stride;
      source_x = get_or p 1 0;
      source_y = get_or p 2 0;
      width = get_or p 3 0;
      height = get_or p 4 0;
      x = signed_at p 5;
      y = signed_at p 6;
    }

-- rules 11.2 and 11.3: for a texture of the sides w and h. Width 0, height 0; the rectangle sideways, then downwards; the target's x, then its y
unfoldable pub fit_verdict : List ℕ → ℕ → ℕ → Verdict
fit_verdict p w h =
    cond (eqb (get_or p 3 0) 0) (refused OutOfRange 3)
    (cond (eqb (get_or p 4 0) 0) (refused OutOfRange 4)
    (cond (leb (get_or p 1 0 + get_or p 3 0) w)
    (cond (leb (get_or p 2 0 + get_or p 4 0) h) (first_out p (5 ∷ 6 ∷ [])) (refused OutOfRange 4))
    (refused OutOfRange 3)))

-- rule 11.2: with the texture that is held under word 0, if one is
unfoldable pub sprite_verdict : List ℕ → Option Whole → Verdict
sprite_verdict p none = refused NotHeld 0
sprite_verdict p (some u) = fit_verdict p u.wide u.high

-- the plane afterwards: a refused sprite leaves it as it was
unfoldable pub sprite_drawn : List ℕ → Option Whole → List ℕ → List ℕ
sprite_drawn p none P = P
sprite_drawn p (some u) P = when_done (fit_verdict p u.wide u.high) (sprite_plane (sprite_of p u.wide) u.words P) P
