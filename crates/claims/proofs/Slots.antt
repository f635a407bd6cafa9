-- Slots over lent words with a command area answer as the whole history does: `Alike as_box (as_past size)`. Assumes nothing.
use Prim.Native.Nat.{ℕ, ◌<◌}
use Rattle.std.specs.Prelude.{Ok}
use mathlib.Core.Path.{◌≡◌, refl, ap, ◌∙◌}
use mathlib.Core.List.{List, [], ◌∷◌, ◌++◌}
use native.Mathlib.Omega.{arith}
use native.Mathlib.Numerals.{add-one}
use lib.ListN.{length, take, length-append, length-set}
use lib.Seq.{take-suc-set}
use Rattle.store.specs.declared.Kind.{Kind}
use Rattle.store.specs.declared.Kind.TheVariants.{Texture, Model}
use Rattle.store.specs.Uploads.{Whole, card, cards, live, room}
use Rattle.store.proofs.Held.{Sized}
use Rattle.store.proofs.Kept.{Keeps, keeps_look, keeps_room, keeps_put}
use Rattle.state.specs.State.{most_payload}
use Rattle.execute.specs.Kept.{Box, room_on, shelf_of, put_box, as_box}
use Rattle.claims.specs.Plain.{Past, history, accepted, as_past}
use Rattle.claims.specs.Alike.{Alike}

-- both stores hold what the history leaves, and the command area begins with the payload
pub record Kept (size : Kind → ℕ) (b : Box) (h : Past) : Type 0 where
  pub textures : Keeps Texture (size Texture) b.textures.slots b.textures.words h.textures
  pub models : Keeps Model (size Model) b.models.slots b.models.words h.models
  pub area : length b.area ≡ most_payload
  pub gathered : b.gathered ≡ length h.payload
  pub payload : take b.gathered b.area ≡ h.payload

module _ {size : Kind → ℕ} {b : Box} {h : Past} (e : Kept size b h) where
  look_at : (k : Kind) (n : ℕ) → as_box.look b k n ≡ (as_past size).look h k n
  look_at Texture n = keeps_look e.textures n
  look_at Model n = keeps_look e.models n

  room_at : (k : Kind) (u : Whole) → room_on k (shelf_of b k) u ≡ room (size k) (cards (live (history h k))) u.number (length u.words)
  room_at Texture u = keeps_room e.textures u
  room_at Model u = keeps_room e.models u

  put-at : (k : Kind) (u : Whole) → Sized k (card u) → room (size k) (cards (live (history h k))) u.number (length u.words) ≡ Ok _
      → Kept size (put_box b k u) (accepted h k u)
  put-at Texture u s f = record { textures = keeps_put e.textures u s f; models = e.models; area = e.area; gathered = e.gathered; payload = e.payload }
  put-at Model u s f = record { textures = e.textures; models = keeps_put e.models u s f; area = e.area; gathered = e.gathered; payload = e.payload }

  -- one more payload word
  add_at : (w : ℕ) → length h.payload < most_payload → Kept size (as_box.add w b) ((as_past size).add w h)
  add_at w l =
      let below : b.gathered < length b.area = omega (arith, e.area, e.gathered) in
      record {
        textures = e.textures;
        models = e.models;
        area = length-set b.area b.gathered w ∙ e.area;
        gathered = omega (arith, e.gathered, length-append h.payload (w ∷ []));
        payload = rw add-one (take-suc-set b.area b.gathered w below) ∙ ap (λ (l : List ℕ). l ++ (w ∷ [])) e.payload;
      }

pub alike : (size : Kind → ℕ) → Alike as_box (as_past size) (Kept size)
alike size = record {
  look_same = λ b h e. λ i k n. look_at e k n i;
  room_same = λ b h l e. room_at e l.kind l.whole;
  put-kept = λ b h l e s f. put-at e l.kind l.whole (record { sides = s.sides; size = s.size }) f;
  payload_same = λ b h e. e.payload;
  add_kept = λ w b h e l. add_at e w l;
  add-length = λ w h. length-append h.payload (w ∷ []) ∙ add-one (length h.payload);
  clear_kept = λ b h e. record { textures = e.textures; models = e.models; area = e.area; gathered = refl; payload = refl };
  clear-length = λ h. refl;
}
