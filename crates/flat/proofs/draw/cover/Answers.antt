-- If the pixel is nearer, both buffers change at it, else neither does. Assumes nothing.
use mathlib.Core.Path.{◌≡◌, refl}
use mathlib.Core.Bool.{true, false}
use Prim.Native.Nat.{ℕ, ◌+◌, ◌*◌}
use native.Mathlib.Omega.{arith}
use lib.IntN.{ℤ, pos}
use lib.ListN.{get_or, length}
use lib.Signed.{lt_z}
use mir.Syntax.{w32, w64}
use mir.Val.{SFits, to_z, of_z}
use mir.ValLaws.{to_z-of_z}
use borrow.Author.Rules.{rules, sfits_of}
use Rattle.screen.specs.Plane.{width}
use Rattle.flat.specs.declared.edge.Weights.{Weights}
use Rattle.flat.specs.declared.solid.Solid.{Solid}
use Rattle.flat.specs.Edge.{weighted_of}
use Rattle.flat.specs.Tri.{area_of, weights_of, depth_at}
use Rattle.flat.proofs.Cell.{drawn-new, drawn-behind}
use Rattle.flat.proofs.Fits.{area-fits, weighed, read_as}
use Rattle.flat.proofs.draw.cover.Goals as goal

-- what the area is read back as
area_read : (s : Solid) → to_z w64 (of_z w64 s.area) ≡ area_of s.tri
area_read s = read_as (area-fits s.placed) s.is_area

-- the answer of `weighted`
is-depth : (s : Solid) (x y : ℕ) (w : Weights) (d : ℤ) → w ≡ weights_of s.tri x y
    → d ≡ weighted_of (to_z w64 (of_z w64 s.area)) w.w0 w.w1 w.w2 s.tri.p0.z s.tri.p1.z s.tri.p2.z → d ≡ depth_at s.tri x y
unfolding depth_at
is-depth s x y w d e h = rw (e, area_read s) at h

pub weighted-d-requires : goal.weighted-d-requires
weighted-d-requires c = let s = c.args.s in
    rw (c.requires.w_value, area_read s) (weighed s.placed c.args.x c.args.y c.requires.x_lt_width.0 c.requires.x_lt_width.1 c.requires.y_value)

pub returns-then-d-old : goal.returns-then-d-old
returns-then-d-old c = let long : length c.args.depth.now ≡ 76800 = search rules in
    let k = c.args.y * width + c.args.x in
    let D = c.args.depth.now in
    let d = c.weighted-d.result in
    let fd : SFits w32 d = sfits_of c.weighted-d.type_inv in
    let fo : SFits w32 (get_or D k (pos 0)) = search rules in
    let n : lt_z d (get_or D k (pos 0)) ≡ true = simp to_z-of_z at c.if-d-old.true in
    simp to_z-of_z
    (drawn-new c.args.s.tri c.args.x c.args.y k D c.args.plane.now c.requires.x_lt_width.0 refl c.requires.y_value d _ (is-depth c.args.s c.args.x c.args.y c.args.w d c.requires.w_value c.weighted-d.ensures) n (omega (arith, long, c.requires.x_lt_width.0, c.requires.x_lt_width.1)) c.write_pixel.ensures)

pub returns-else-d-old : goal.returns-else-d-old
returns-else-d-old c = let k = c.args.y * width + c.args.x in
    let D = c.args.depth.now in
    let d = c.weighted-d.result in
    let fd : SFits w32 d = sfits_of c.weighted-d.type_inv in
    let fo : SFits w32 (get_or D k (pos 0)) = search rules in
    let n : lt_z d (get_or D k (pos 0)) ≡ false = simp to_z-of_z at c.if-d-old.false in
    drawn-behind c.args.s.tri c.args.x c.args.y k D c.args.plane.now c.requires.x_lt_width.0 refl c.requires.y_value (rw (← is-depth c.args.s c.args.x c.args.y c.args.w d c.requires.w_value c.weighted-d.ensures) n)
