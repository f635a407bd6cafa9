use Rattle.std.proofs.Common.{◌≡◌, ℕ, List, subst, ◌+◌, ◌-◌, ◌++◌, length, take, replicate, get_or, sym, refl, ap, ◌∙◌, arith}
use lib.Seq.{take-append_seam}
use Rattle.clip.specs.declared.vertex.ClipVertex.{ClipVertex}
use Rattle.clip.specs.Polygons.{next_cut}
use Rattle.clip.specs.Vertices.{full, of, no_vertex}
use Rattle.clip.proofs.Whole.{next_bounds}
use Rattle.clip.proofs.Planes.{at_most, carried, none_left, on_to, done, started}
use Rattle.clip.proofs.polygon.clip_all.Goals as goal
use Rattle.clip.proofs.polygon.clip_all.Goals.{After-copy_from_slice}

front : (xs ys : List ClipVertex) → length xs ≡ 3 → take 3 (xs ++ ys) ≡ xs
front xs ys h = subst (λ (n : ℕ). take n (xs ++ ys) ≡ xs) h (take-append_seam xs ys)

-- the corners that the polygon begins with are the triangle's
triangle : (c : After-copy_from_slice) → take 3 (c.copy_from_slice.new.self ++ replicate 25 (get_or c.args.triangle 0 no_vertex)) ≡ c.args.triangle
triangle c = front _ _ c.copy_from_slice.ensures.len ∙ c.copy_from_slice.ensures.after

pub loop-plane-init : goal.loop-plane-init
loop-plane-init c =
    let e = triangle c.before.before in
    let start = started _ refl (ap length e ∙ sym (ap length c.copy_from_slice.ensures.after) ∙ c.copy_from_slice.ensures.len) in
    on_to start (omega arith) (c.first_cut-plane.ensures ∙ ap (next_cut full 6 0) (sym e))

pub clip_polygon-polygon-requires : goal.clip_polygon-polygon-requires
clip_polygon-polygon-requires c = at_most c.loop-plane.invariant.1 c.loop-plane-test.true

pub returns-then-polygon-lt3 : goal.returns-then-polygon-lt3
returns-then-polygon-lt3 c = rw (← triangle c.before.before.before.before.before.before.before) (none_left c.loop-plane.invariant.1 c.loop-plane-test.true c.clip_polygon-polygon.ensures c.if-polygon-lt3.true)

pub next_cut-plane-requires : goal.next_cut-plane-requires
next_cut-plane-requires c = record { count_le_room = c.clip_polygon-polygon.ensures.few; plane_bound = omega arith }

pub loop-plane-smaller : goal.loop-plane-smaller
loop-plane-smaller c = let plane = c.loop-plane.plane in
    let e = c.next_cut-plane.ensures in
    let b = next_bounds full (6 - (plane + 1)) (plane + 1) (of c.clip_polygon-polygon.result) in
    omega arith

pub loop-plane-preserved : goal.loop-plane-preserved
loop-plane-preserved c = let w = carried c.loop-plane.invariant.1 c.loop-plane-test.true c.clip_polygon-polygon.ensures c.if-polygon-lt3.false in
    on_to w (omega arith) c.next_cut-plane.ensures

pub returns : goal.returns
returns c = rw (← triangle c.before.before.before.before) (done c.loop-plane.invariant.1 c.loop-plane.invariant.0 c.loop-plane-test.false)
