-- Words leave the plane and the depths as long as they were. Assumes nothing.
use Prim.Native.Nat.{ℕ}
use mathlib.Core.Path.{◌≡◌, refl, ◌∙◌}
use mathlib.Core.List.{List, [], ◌∷◌}
use lib.ListN.{length, length-replicate}
use Rattle.laws.proofs.Cells.{length-map_at}
use Rattle.sprite.specs.Sprite.{sprite_plane}
use Rattle.flat.specs.Tri.{tri_depths, tri_plane}
use Rattle.stroke.proofs.Laws.{stroke-long}
use Rattle.execute.specs.Paints as paints
use Rattle.execute.specs.Paints.{Picture, Paint, seen_of, paint_on, paints_on}
use Rattle.execute.specs.Control.{Keep, Seen}
use Rattle.run.specs.Framing.{word, word_on, run}

-- a picture with as many bytes and as many depths as another
pub record Long (p q : Picture) : Type 0 where
  pub plane : length p.plane ≡ length q.plane
  pub depth : length p.depth ≡ length q.depth
  pub depth_f : length p.depth_f ≡ length q.depth_f

then : {p q r : Picture} → Long p q → Long q r → Long p r
then a b = record { plane = a.plane ∙ b.plane; depth = a.depth ∙ b.depth; depth_f = a.depth_f ∙ b.depth_f }

paint-long : (a : Paint) (p : Picture) → Long (paint_on a p) p
unfolding paint_on sprite_plane tri_depths tri_plane
paint-long (paints.fill c) p = record { plane = length-map_at _ p.plane; depth = refl; depth_f = refl }
paint-long paints.far p = record { plane = refl; depth = length-replicate _ _; depth_f = length-replicate _ _ }
paint-long (paints.sprite s texels) p = record { plane = length-map_at _ p.plane; depth = refl; depth_f = refl }
paint-long (paints.flat t) p = record { plane = length-map_at _ p.plane; depth = length-map_at _ p.depth; depth_f = refl }
paint-long (paints.stroked k) p =
    let s = stroke-long k (seen_of p) in
    record { plane = s.of-plane; depth = refl; depth_f = s.of-depths }

paints-long : (more : List Paint) (p : Picture) → Long (paints_on more p) p
unfolding paints_on
paints-long [] p = record { plane = refl; depth = refl; depth_f = refl }
paints-long (a ∷ more) p = then (paints-long more (paint_on a p)) (paint-long a p)

pub run_long : {X : Type 0} (K : Keep X) (ws : List ℕ) (m : Seen X) → Long (run K m ws).picture m.picture
unfolding run
run_long K [] m = record { plane = refl; depth = refl; depth_f = refl }
run_long K (w ∷ ws) m = then (run_long K ws (word_on K m w)) (paints-long (word K m.control w).paints m.picture)
