-- The commands that paint, by length and by what they draw: for the proof of `paint`. Assumes nothing.
use Prim.Native.Nat.{ℕ}
use mathlib.Core.Path.{◌≡◌, refl}
use mathlib.Core.Bool.{Bool, true, false, cond}
use mathlib.Core.Option.{Option, none, some}
use mathlib.Core.List.{List, [], ◌∷◌, map}
use lib.IntN.{ℤ}
use lib.Ieee.{Float}
use lib.ListN.{length}
use borrow.Author.Tests.{eq-eqb, ne_eqb}
use Rattle.settings.specs.declared.Settings.{Settings}
use Rattle.flat.specs.Words.{flat_verdict, flat_depths, flat_plane}
use Rattle.sprite.specs.Sprite.{sprite_plane}
use Rattle.sprite.specs.Words.{fit_verdict, sprite_of, sprite_drawn}
use Rattle.store.specs.Uploads.{Whole}
use Rattle.stroke.specs.Strokes.{sheet, Stroke, stroke_on, strokes_on}
use Rattle.decide.specs.Corners.{words_of}
use Rattle.std.specs.Prelude.{Ok, Err}
use Rattle.verdict.specs.Verdict.{Verdict, when_done}
use Rattle.command.specs.declared.Draw.{Draw}
use Rattle.execute.specs.Paints.{Picture, picture, seen_of, with_seen, sprite, stroked, paint_on, paints_on}
use Rattle.command.specs.Command.{draw_words}
use Rattle.execute.specs.Commands.{Look, wrong_length, blank, sprite_paints, flat_painted, drawn_by, painted_by}

module _ (look : Look) (s : Settings) (d : Draw) (p : List ℕ) where
  pub painted-whole : length p ≡ draw_words d → painted_by look s d p ≡ drawn_by look s d p
  unfolding painted_by
  painted-whole n = rw (eq-eqb (length p) (draw_words d) n)

  pub painted_short : (length p ≡ draw_words d → ⊥) → painted_by look s d p ≡ blank wrong_length
  unfolding painted_by
  painted_short n = rw (ne_eqb (length p) (draw_words d) n)

  -- a wrong length paints nothing
  pub by_length : (length p ≡ draw_words d → ⊥) → (v : Verdict) (a : Picture) → v ≡ wrong_length
      → (v ≡ (painted_by look s d p).verdict) × (a ≡ paints_on (painted_by look s d p).paints a)
  unfolding paints_on
  by_length n v a f = rw (painted_short n) (f, refl)

  -- if d is e, what its arm gives is what the command gives
  pub by_draw : length p ≡ draw_words d → (e : Draw) → d ≡ e → (v : Verdict) (a b : Picture) → v ≡ (drawn_by look s e p).verdict → b ≡ paints_on (drawn_by look s e p).paints a
      → (v ≡ (painted_by look s d p).verdict) × (b ≡ paints_on (painted_by look s d p).paints a)
  by_draw n e is v a b f g = rw (painted-whole n, is) (f, g)

-- a triangle's words, as its draw asks for them
pub transformed_words : (normal : Bool) → cond normal 21 12 ≡ words_of normal false
transformed_words true = refl
transformed_words false = refl

pub textured_words : (normal : Bool) → cond normal 29 20 ≡ words_of normal true
textured_words true = refl
textured_words false = refl

-- ---- strokes on a picture
strokes_on_lem : (ks : List Stroke) (p : Picture) → paints_on (map stroked ks) p ≡ with_seen p (strokes_on ks (seen_of p))
unfolding paints_on paint_on strokes_on
strokes_on_lem [] p = refl
strokes_on_lem (k ∷ ks) p = strokes_on_lem ks (with_seen p (stroke_on k (seen_of p)))

pub strokes_painted : (ks : List Stroke) (P P' : List ℕ) (D : List ℤ) (F F' : List Float) → sheet P' F' ≡ strokes_on ks (sheet P F)
    → picture P' D F' ≡ paints_on (map stroked ks) (picture P D F)
strokes_painted ks P P' D F F' e = rw (strokes_on_lem ks (picture P D F), ← e)

-- ---- a sprite, which leaves both depths
pub sprite-painted : (p : List ℕ) (found : Option Whole) (P P' : List ℕ) (D : List ℤ) (F : List Float) → P' ≡ sprite_drawn p found P
    → picture P' D F ≡ paints_on (sprite_paints p found) (picture P D F)
unfolding sprite_drawn sprite_paints paints_on paint_on
sprite-painted p none P P' D F e = rw e
sprite-painted p (some u) P P' D F e = rw e (go (fit_verdict p u.wide u.high))
  where
    go : (v : Verdict)
        → picture (when_done v (sprite_plane (sprite_of p u.wide) u.words P) P) D F ≡ paints_on (when_done v (sprite (sprite_of p u.wide) u.words ∷ []) []) (picture P D F)
    go (Ok u) = refl
    go (Err why) = refl

-- ---- a flat triangle
pub flat-painted : (p : List ℕ) (P P' : List ℕ) (D D' : List ℤ) (F : List Float) → D' ≡ flat_depths p D → P' ≡ flat_plane p D P
    → picture P' D' F ≡ paints_on (flat_painted p).paints (picture P D F)
unfolding flat_plane flat_depths flat_painted paints_on paint_on
flat-painted p P P' D D' F d q = rw (d, q) (go (flat_verdict p) refl)
  where
    go : (v : Verdict) → flat_verdict p ≡ v → picture (flat_plane p D P) (flat_depths p D) F ≡ paints_on (flat_painted p).paints (picture P D F)
    go (Ok u) e = rw e
    go (Err why) e = rw e
