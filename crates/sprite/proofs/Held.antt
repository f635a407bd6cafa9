-- For the proof of `draw_sprite`. Assumes nothing.
use mathlib.Core.Path.{◌≡◌}
use mathlib.Core.Bool.{true, ◌&&◌}
use mathlib.Core.List.{List}
use Prim.Native.Nat.{ℕ}
use borrow.Author.Tests.{leb-true}
use lib.Dec.{leb, ltb}
use Rattle.laws.proofs.Bools.{and_left, and_right}
use Rattle.verdict.specs.Verdict.{done}
use Rattle.store.specs.Slots.{area_of, sides_ok}
use Rattle.store.specs.declared.Kind.TheVariants.{Texture}
use Rattle.sprite.specs.Spans.{Placed}
use Rattle.sprite.specs.Words.{sprite_of, fit_verdict}
use Rattle.sprite.proofs.Fits.{done-placed}

-- a sprite that is not refused, in the words of a well-formed slot
pub held-placed : (p : List ℕ) (w h n : ℕ) → sides_ok Texture w h ≡ true → n ≡ area_of Texture w h → fit_verdict p w h ≡ done → Placed (sprite_of p w) n
held-placed p w h n sides size passes =
    let wide = and_left (ltb 0 w && leb w 1024) (ltb 0 h && leb h 1024) sides in
    let high = and_right (ltb 0 w && leb w 1024) (ltb 0 h && leb h 1024) sides in
    done-placed p w h n (leb-true w 1024 (and_right (ltb 0 w) (leb w 1024) wide)) (leb-true h 1024 (and_right (ltb 0 h) (leb h 1024) high)) size passes
