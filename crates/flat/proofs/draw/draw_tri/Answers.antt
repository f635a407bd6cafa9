-- A triangle of positive area is drawn by rows, one of negative area after it is turned (`Turn`), and an area of 0 covers nothing. Assumes nothing.
use mathlib.Core.Path.{◌≡◌}
use mathlib.Core.Bool.{true}
use mathlib.Core.List.{List}
use Prim.Native.Nat.{ℕ}
use native.Mathlib.Omega.{arith}
use lib.IntN.{ℤ, pos}
use lib.ListN.{length}
use lib.Signed.{lt_z}
use mir.Syntax.{w64}
use mir.Val.{to_z, of_z}
use borrow.Author.Rules.{rules}
use Rattle.screen.specs.Plane.{plane_bytes}
use Rattle.screen.specs.Draw.{pixels}
use Rattle.screen.proofs.Draw.{drawn-all}
use Rattle.flat.specs.declared.tri.Tri.{Tri}
use Rattle.flat.specs.Tri.{Placed, area_of, tri_depths, tri_plane}
use Rattle.flat.specs.Drawing.{turned_of, TriDrawn}
use Rattle.flat.proofs.Cell.{drawn-clear, no_area}
use Rattle.flat.proofs.Fits.{area-fits, read_as}
use Rattle.flat.proofs.Turn.{turned_placed, turned_area, turned_up, turned_drawn}
use Rattle.flat.proofs.draw.draw_tri.Goals as goal

-- the whole screen is drawn
abbrev Whole : Tri → List ℤ → List ℕ → List ℤ → List ℕ → Type 0
Whole t D P D' P' = (D' ≡ tri_depths t D) × (P' ≡ tri_plane t D P)

whole : (t : Tri) {D D' : List ℤ} {P P' : List ℕ} → length D ≡ pixels → length P ≡ plane_bytes → TriDrawn t 0 pixels D P D' P' → Whole t D P D' P'
unfolding tri_depths tri_plane
whole t d p h = drawn-all h (omega arith) (omega arith)

-- ---- a negative area
back_placed : {t b : Tri} → b ≡ turned_of t → Placed t → Placed b
back_placed e p = rw e (turned_placed p)

pub returns-then-area-gt0 : goal.returns-then-area-gt0
returns-then-area-gt0 c = let (d, q) = whole c.args.t (search rules) (search rules) (rw c.new.ensures at c.draw_rows.ensures) in
    record { depth_after = d; plane_after = q }

pub area_of-area-requires-then-area-lt0 : goal.area_of-area-requires-then-area-lt0
area_of-area-requires-then-area-lt0 c = back_placed c.turned-back.ensures c.requires

pub new-requires-then-area-lt0-clause-placed : goal.new-requires-then-area-lt0-clause-placed
new-requires-then-area-lt0-clause-placed c = back_placed c.turned-back.ensures c.requires

pub new-requires-then-area-lt0-clause-upward : goal.new-requires-then-area-lt0-clause-upward
new-requires-then-area-lt0-clause-upward c = let t = c.args.t in
    let down : lt_z (area_of t) (pos 0) ≡ true = rw (read_as (area-fits c.requires) c.area_of-area.ensures) at c.if-area-lt0.true in
    rw (c.turned-back.ensures, turned_area t) (turned_up (area_of t) down)

pub returns-then-area-lt0 : goal.returns-then-area-lt0
returns-then-area-lt0 c = let t = c.args.t in
    let down : lt_z (area_of t) (pos 0) ≡ true = rw (read_as (area-fits c.requires) c.area_of-area.ensures) at c.if-area-lt0.true in
    let (d, q) = whole c.args.t (search rules) (search rules) (turned_drawn t down (rw (c.new-then-area-lt0.ensures, c.turned-back.ensures) at c.draw_rows-then-area-lt0.ensures)) in
    record { depth_after = d; plane_after = q }

-- ---- no area
pub returns-else-area-lt0 : goal.returns-else-area-lt0
returns-else-area-lt0 c = let t = c.args.t in
    let e : to_z w64 (of_z w64 c.area_of-area.result) ≡ area_of t = read_as (area-fits c.requires) c.area_of-area.ensures in
    let (d, q) = whole c.args.t (search rules) (search rules) (drawn-clear t 0 pixels c.args.depth.now c.args.plane.now (λ k p q. no_area t _ _ (rw e at c.if-area-gt0.false) (rw e at c.if-area-lt0.false))) in
    record { depth_after = d; plane_after = q }
