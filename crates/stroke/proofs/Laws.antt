-- Laws of strokes, for a caller that paints several. Assumes nothing.
--     strokes_append                  those of two lists, one after the other
--     triangle-long, fan-long         a triangle and a fan keep the lengths of the plane and of the depths
--     stroke-long, strokes_long       and so do a stroke and strokes
use Prim.Native.Nat.{ℕ}
use mathlib.Core.Path.{◌≡◌, refl, ◌∙◌}
use mathlib.Core.List.{List, [], ◌∷◌, ◌++◌}
use lib.ListN.{length}
use Rattle.laws.proofs.Cells.{length-map_at}
use Rattle.clip.specs.declared.vertex.ClipVertex.{ClipVertex}
use Rattle.clip.specs.Polygons.{clip_all, fan}
use Rattle.clip.specs.Vertices.{full}
use Rattle.std.specs.Prelude.{Option, Some, None}
use Rattle.face.specs.declared.Face.{Face}
use Rattle.raster.specs.declared.ink.Ink.{Ink}
use Rattle.raster.specs.Raster.{depths_after, plane_after}
use Rattle.raster.specs.Triangles.{transformed_depths, transformed_plane, textured_depths, textured_plane}
use Rattle.stroke.specs.declared.Brush.{Brush}
use Rattle.stroke.specs.declared.Brush.TheVariants.{Flat, Blended, Textured}
use Rattle.stroke.specs.Strokes.{Sheet, sheet, triangle_on, fan_on, Stroke, stroke_on, strokes_on}

pub strokes_append : (a b : List Stroke) (s : Sheet) → strokes_on (a ++ b) s ≡ strokes_on b (strokes_on a s)
unfolding strokes_on
strokes_append [] b s = refl
strokes_append (k ∷ a) b s = strokes_append a b (stroke_on k s)

-- a sheet with as many bytes and as many depths as another
pub record SameLong (a b : Sheet) : Type 0 where
  pub of-plane : length a.plane ≡ length b.plane
  pub of-depths : length a.depths ≡ length b.depths

same : (s : Sheet) → SameLong s s
same s = record { of-plane = refl; of-depths = refl }

then : {a b c : Sheet} → SameLong a b → SameLong b c → SameLong a c
then p q = record { of-plane = p.of-plane ∙ q.of-plane; of-depths = p.of-depths ∙ q.of-depths }

-- what both rasterisers come to
set_up_long : (texels : List ℕ) (ink : Ink) (setup : Option Face) (s : Sheet) → SameLong (sheet (plane_after texels ink setup s.depths s.plane) (depths_after setup s.depths)) s
unfolding plane_after depths_after
set_up_long texels ink (Some f) s = record { of-plane = length-map_at _ s.plane; of-depths = length-map_at _ s.depths }
set_up_long texels ink None s = same s

pub triangle-long : (brush : Brush) (texels : List ℕ) (tri : List ClipVertex) (s : Sheet) → SameLong (triangle_on brush texels tri s) s
unfolding triangle_on transformed_depths transformed_plane textured_depths textured_plane
triangle-long (Flat c) texels tri s = set_up_long _ _ _ s
triangle-long Blended texels tri s = set_up_long _ _ _ s
triangle-long (Textured t) texels tri s = set_up_long _ _ _ s

pub fan-long : (brush : Brush) (texels : List ℕ) (ts : List (List ClipVertex)) (s : Sheet) → SameLong (fan_on brush texels ts s) s
unfolding fan_on
fan-long brush texels [] s = same s
fan-long brush texels (t ∷ ts) s = then (fan-long brush texels ts (triangle_on brush texels t s)) (triangle-long brush texels t s)

pub stroke-long : (k : Stroke) (s : Sheet) → SameLong (stroke_on k s) s
unfolding stroke_on
stroke-long k s = fan-long k.brush k.texels (fan (clip_all full k.corners)) s

pub strokes_long : (ks : List Stroke) (s : Sheet) → SameLong (strokes_on ks s) s
unfolding strokes_on
strokes_long [] s = same s
strokes_long (k ∷ ks) s = then (strokes_long ks (stroke_on k s)) (stroke-long k s)
