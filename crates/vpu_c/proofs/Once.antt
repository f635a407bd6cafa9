-- No second answer to a host in C either: a call's contract leaves one answer, one state as plain data and one content of every lent memory. Assumes nothing.
use mathlib.Core.Path.{refl, sym, ◌∙◌}
use lib.ListN.{get_or}
use Rattle.laws.specs.Determines.{Determines}
use Rattle.vpu_c.proofs.vpu_reset.Kinds as reset
use Rattle.vpu_c.proofs.vpu_reset.Reads as reset-reads
use Rattle.vpu_c.proofs.vpu_feed.Kinds as feed
use Rattle.vpu_c.proofs.vpu_feed.Reads as feed-reads
use Rattle.vpu_c.proofs.vpu_pixel.Kinds as pixel
use Rattle.vpu_c.proofs.vpu_pixel.Reads as pixel-reads

pub reset_c_once : Determines 6 reset.ps reset.r reset-reads.Learnt
reset_c_once κs a x y ws vs p q =
    let e = p ∙ sym q in
    (λ i. record { answer = (e i).answer; state = (e i).state }, λ i. ((e i).plane, ((e i).depth, ((e i).depth_f, (tt, ((e i).textures, ((e i).models, tt)))))))

pub feed_c_once : Determines 7 feed.ps feed.r feed-reads.Learnt
feed_c_once κs a x y ws vs p q =
    let e = p ∙ sym q in
    (λ i. record { answer = (e i).answer; state = (e i).state }, λ i. (tt, (tt, ((e i).plane, ((e i).depth, ((e i).depth_f, ((e i).command, ((e i).textures, ((e i).models, tt)))))))))

pub pixel_c_once : Determines 1 pixel.ps pixel.r pixel-reads.Learnt
pixel_c_once κs a x y ws vs p q =
    let e = p ∙ sym q in
    (λ i. record { answer = (e i).number; r = get_or (e i).bytes 0 0; g = get_or (e i).bytes 1 0; b = get_or (e i).bytes 2 0; a = get_or (e i).bytes 3 0 }, refl)
