-- A draw shows the last accepted upload, on the screen: two 1 × 1 textures under one number and a triangle over the lower left half. antt computes its corners, its set-up and one pixel. Assumes nothing.
use Prim.Native.Nat.{ℕ, ◌/◌, ◌≤◌}
use Rattle.verdict.specs.Verdict.{done}
use Rattle.std.specs.Prelude.{Some}
use mathlib.Core.Path.{◌≡◌, refl, ◌∙◌}
use mathlib.Core.Bool.{true, false}
use mathlib.Core.Option.{some}
use mathlib.Core.List.{List, [], ◌∷◌, ◌++◌, map}
use native.Mathlib.Omega.{arith}
use borrow.Author.Tests.{le-ltb}
use lib.Ieee.{nan, binary32, of_bits, of_int, add, sub, mul, div, lt, le}
use lib.ListN.{length, get_or, length-replicate, get_or-replicate}
use Rattle.ieee.specs.Units.{wholes}
use Rattle.laws.proofs.Cells.{get_or-map_at}
use Rattle.screen.specs.Plane.{plane_bytes, paint, shown}
use Rattle.screen.specs.Draw.{pixels, byte_step}
use Rattle.clip.specs.declared.vertex.ClipVertex.{ClipVertex}
use Rattle.clip.specs.Polygons as clip
use Rattle.clip.specs.Vertices.{full, distance_of}
use Rattle.clip.proofs.Whole.{inside-drawn}
use Rattle.face.specs.declared.Face.{Face}
use Rattle.face.specs.Face.{corner, point_of, edge_of, min_of, past_of, bounds_of, face_of, setup_of}
use Rattle.face.specs.Pixel.{within, weight0, weight1, weight2, inside_of, covers, bary_of, mix_of, depth_at, passes_of}
use Rattle.face.specs.declared.Corners.{Corners}
use Rattle.texel.specs.Texel.{nibbles_of, half_of, texel_at}
use Rattle.raster.specs.Ink.{byte_of, rgba_of, uv_of, sampler_of, texel_of, plain_of, toned_of, shade_of}
use Rattle.raster.specs.Triangles.{tone_of, textured_ink, textured_plane}
use Rattle.raster.proofs.Cases.{place-one}
use Rattle.stroke.specs.Strokes.{stroke, stroke_on, fan_on, triangle_on}
use Rattle.raster.specs.Raster.{shows_at, shows, inked, ink_at, plane_after}
use Rattle.decide.specs.Corners.{normal_matrix_of, view_of, projected_of, corner_of, corners_by, corners_of}
use Rattle.decide.specs.Verdicts as verdicts
use Rattle.decide.specs.Verdicts.{finite4, plain_vertex, textured_by, checked_verdict}
use Rattle.lit.specs.Lit.{textured_lit}
use Rattle.draw.specs.Draws.{flat_color, textured_corners, textured_brush, held_strokes, textured_strokes}
use Rattle.payload.specs.Words.{finite_from}
use Rattle.settings.specs.Settings as settings
use Rattle.store.specs.Slots.{whole_of}
use Rattle.execute.specs.Paints as paints
use Rattle.execute.specs.Paints.{Picture, paint_on, paints_on}
use Rattle.command.specs.Command.{command_of}
use Rattle.execute.specs.Commands.{told, texture_verdict, painted_by, textured_painted}
use Rattle.execute.specs.Control.{execute}
use Rattle.execute.specs.Kept.{Machine}
use Rattle.run.specs.Framing.{word, header, gather, run}
use Rattle.claims.specs.Plain.{as_past, plain_start}
use Rattle.claims.specs.Thirteen.{InStore}
use Rattle.claims.specs.Idle.{upload, triangle, draw, alpha_of}
use Rattle.claims.proofs.Table.{given, from, by_plain}

checked : checked_verdict triangle false (settings.fresh).matrices ≡ done
unfolding checked_verdict textured_by normal_matrix_of verdicts.plain_of plain_vertex finite4 finite_from corners_of corners_by corner_of view_of projected_of of_bits add mul
checked = refl

-- its corners, which are inside the view, so that it is drawn as it is
abbrev tri : List ClipVertex
tri = textured_corners settings.fresh triangle false

three : length tri ≡ 3
unfolding textured_corners textured_lit corners_of corners_by
three = refl

inside : clip.all_inside full tri ≡ true
unfolding clip.all_inside clip.next_cut clip.whole distance_of textured_corners textured_lit corners_of corners_by corner_of view_of projected_of of_bits add mul sub le
inside = refl

alone : clip.fan (clip.clip_all full tri) ≡ tri ∷ []
alone = inside-drawn full tri three inside

-- its set-up, and the pixel (0, 0), which it covers
abbrev face : Face
face = face_of true (corner tri 0).position (corner tri 1).position (corner tri 2).position

set_up : setup_of true tri ≡ Some face
unfolding setup_of face_of edge_of point_of textured_corners textured_lit corners_of corners_by corner_of view_of projected_of of_bits add mul sub div le
set_up = refl

covered : shows face 0 (of_bits binary32 0x3f80_0000) ≡ true
unfolding shows shows_at within covers inside_of weight0 weight1 weight2 depth_at passes_of mix_of bary_of face_of bounds_of min_of past_of edge_of point_of textured_corners textured_lit corners_of corners_by corner_of view_of projected_of of_bits of_int add mul sub div le lt wholes
covered = refl

-- ---- the alpha that it leaves there, of a 1 × 1 texture of the word w
texel_one : (w : ℕ) (u v b : Corners) → texel_of (w ∷ []) (record { width = 1; height = 1; u = u; v = v }) b ≡ nibbles_of (w / 65536)
unfolding texel_of texel_at half_of
texel_one w u v b = rw (place-one u v b)

alpha_ink : (w old : ℕ) → ink_at (w ∷ []) (textured_ink tri 1 1 0 (flat_color tri)) face 3 old ≡ alpha_of w
unfolding ink_at inked textured_ink tone_of sampler_of shade_of toned_of paint shown rgba_of plain_of nibbles_of
alpha_ink w old = rw (texel_one w (uv_of tri 0) (uv_of tri 1) (bary_of face 0 0))

stroke_alpha : (w : ℕ) (p : Picture) → length p.plane ≡ plane_bytes → get_or p.depth_f 0 nan ≡ of_bits binary32 0x3f80_0000
    → get_or (paint_on (paints.stroked (stroke tri (textured_brush 1 1 0 tri) (w ∷ []))) p).plane 3 0 ≡ alpha_of w
unfolding paint_on stroke_on fan_on triangle_on textured_brush textured_plane plane_after byte_step
stroke_alpha w p long far =
    rw (alone, set_up)
    (get_or-map_at _ p.plane 3 0 (omega arith) ∙ rw (far, covered) (alpha_ink w (get_or p.plane 3 0)))

-- ---- 17 under the number 1, and the draw
strokes_are : (w : ℕ) → textured_strokes settings.fresh triangle false (some (whole_of 1 1 1 (w ∷ []))) ≡ stroke tri (textured_brush 1 1 0 tri) (w ∷ []) ∷ []
unfolding textured_strokes held_strokes
strokes_are w = rw checked

module _ (t u : ℕ) (p : Picture) (room : 1 ≤ t) where
  once_left : (a : ℕ) → (run (as_past (given t u)) (from p) (upload 1 a ++ draw)).picture ≡ paints_on (map paints.stroked (textured_strokes settings.fresh triangle false (some (whole_of 1 1 1 (a ∷ []))))) p
  unfolding run word header gather execute told command_of texture_verdict painted_by textured_painted paints_on
  once_left a = rw (le-ltb t 1 room)

  twice_left : (a b : ℕ) → (run (as_past (given t u)) (from p) (upload 1 a ++ (upload 1 b ++ draw))).picture ≡ paints_on (map paints.stroked (textured_strokes settings.fresh triangle false (some (whole_of 1 1 1 (b ∷ []))))) p
  unfolding run word header gather execute told command_of texture_verdict painted_by textured_painted paints_on
  twice_left a b = rw (le-ltb t 1 room, le-ltb t 1 room)

-- ---- after a reset, with room for one word
picture_alpha : (w : ℕ) (m : Machine) → m.picture ≡ paints_on (map paints.stroked (textured_strokes settings.fresh triangle false (some (whole_of 1 1 1 (w ∷ []))))) plain_start.picture
    → get_or m.picture.plane 3 0 ≡ alpha_of w
unfolding paints_on
picture_alpha w m e =
    rw (e, strokes_are w)
    (stroke_alpha w plain_start.picture (length-replicate {A = ℕ} plane_bytes 0) (get_or-replicate pixels 0 (of_bits binary32 0x3f80_0000) nan (omega arith)))

-- the alpha at (0, 0) is the texture's
pub shows-one : (a : ℕ) → InStore (λ size. 1 ≤ size) (upload 1 a ++ draw) (λ m. get_or m.picture.plane 3 0 ≡ alpha_of a)
shows-one a = by_plain (λ t u r m h. picture_alpha a m (h.picture ∙ once_left t u _ r a))

-- and if there are two, that of the last accepted one
pub shows_last : (a b : ℕ) → InStore (λ size. 1 ≤ size) (upload 1 a ++ (upload 1 b ++ draw)) (λ m. get_or m.picture.plane 3 0 ≡ alpha_of b)
shows_last a b = by_plain (λ t u r m h. picture_alpha b m (h.picture ∙ twice_left t u _ r a b))

-- the alphas of the nibbles F and 5
pub alphas : (alpha_of 0x000f_0000 ≡ 255) × (alpha_of 0x0005_0000 ≡ 85)
unfolding byte_of of_int div of_bits lt mul add wholes
alphas = (refl, refl)
