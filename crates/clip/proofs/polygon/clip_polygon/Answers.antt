use Rattle.std.proofs.Common.{◌≡◌, ◌<◌, length, get_or, arith, rules}
use Rattle.clip.specs.Vertices.{room, of, no_vertex}
use Rattle.clip.proofs.Turn.{Half, Side, side-of, begun, ended, empty, cross_fits, crossed, uncrossed, end_fits, entered, left_out}
use Rattle.clip.proofs.polygon.clip_polygon.Goals as goal
use Rattle.clip.proofs.polygon.clip_polygon.Goals.{then-previous_inside-current_inside, else-previous_inside-current_inside, then-current_inside, else-current_inside, After-clip_distance-current_distance, Joined-previous_inside-current_inside, Then-current_inside, Then-previous_inside-current_inside}

-- the side of this turn
side : (c : After-clip_distance-current_distance)
    → Side c.args.plane (of c.args.polygon) c.loop-vertex.vertex-index (get_or (of c.args.polygon) c.loop-vertex.vertex-index no_vertex) c.clip_distance-current_distance.result
side c =
    let full : length c.args.polygon.vertices ≡ room = search rules in
    side-of c.args.plane c.args.polygon.vertices c.args.polygon.count full c.requires (omega (arith, c.loop-vertex-test.true)) c.clip_distance-current_distance.ensures

-- after the first `if`, by either way, its crossing has been put
half : (c : Joined-previous_inside-current_inside)
    → Half c.args.plane (of c.args.polygon) (get_or (of c.args.polygon) c.loop-vertex.vertex-index no_vertex) c.clip_distance-current_distance.result c.if-previous_inside-current_inside.output c.if-previous_inside-current_inside.n c.loop-vertex.vertex-index
half c =
    let at = c.loop-vertex.invariant in
    elim c.if-previous_inside-current_inside.branch [
      | then-previous_inside-current_inside w ↦ rw (w.output-is, w.n-is) (crossed at (side c.before) w.if-previous_inside-current_inside.true w.mix_vertex.ensures)
      | else-previous_inside-current_inside w ↦ rw (w.output-is, w.n-is) (uncrossed at (side c.before) w.if-previous_inside-current_inside.false)
    ]

-- a crossing finds room, and so does an end
cross_room : (c : Then-previous_inside-current_inside) → c.loop-vertex.n < room
cross_room c = cross_fits c.loop-vertex.invariant (side c.before) c.if-previous_inside-current_inside.true

end_room : (c : Then-current_inside) → c.if-previous_inside-current_inside.n < room
end_room c = end_fits (half c.before) (side c.before.before) c.if-current_inside.true

pub returns-then-count-eq0 : goal.returns-then-count-eq0
returns-then-count-eq0 c = empty c.args.plane c.args.polygon c.if-count-eq0.true

pub loop-vertex-init : goal.loop-vertex-init
loop-vertex-init c =
    let full : length c.args.polygon.vertices ≡ room = search rules in
    begun c.args.plane c.args.polygon.vertices c.args.polygon.count full c.requires (omega arith) c.clip_distance-previous_distance.ensures

pub offset_bounds-output-n : goal.offset_bounds-output-n
offset_bounds-output-n c = omega (arith, cross_room c.before)

pub bounds-output-n : goal.bounds-output-n
bounds-output-n c = omega (arith, cross_room c.before)

pub overflow_add-n : goal.overflow_add-n
overflow_add-n c = omega (arith, cross_room c.before)

pub offset_bounds-output-n-then-current_inside : goal.offset_bounds-output-n-then-current_inside
offset_bounds-output-n-then-current_inside c = omega (arith, end_room c.before)

pub bounds-output-n-then-current_inside : goal.bounds-output-n-then-current_inside
bounds-output-n-then-current_inside c = omega (arith, end_room c.before)

pub overflow_add-n-then-current_inside : goal.overflow_add-n-then-current_inside
overflow_add-n-then-current_inside c = omega (arith, end_room c.before)

pub loop-vertex-preserved : goal.loop-vertex-preserved
loop-vertex-preserved c =
    let h = half c.before in
    let s = side c.before.before in
    elim c.if-current_inside.branch [
      | then-current_inside w ↦ rw (w.output-is, w.n-is, w.previous-is, w.previous_distance-is) (entered h s w.if-current_inside.true)
      | else-current_inside w ↦ rw (w.output-is, w.n-is, w.previous-is, w.previous_distance-is) (left_out h s w.if-current_inside.false)
    ]

pub returns : goal.returns
returns c =
    let full : length c.args.polygon.vertices ≡ room = search rules in
    ended c.args.plane c.args.polygon.vertices c.args.polygon.count full c.requires c.loop-vertex.invariant (omega arith)
