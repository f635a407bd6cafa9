-- The plain machine of demand 3 (rule 10.3): it runs the same commands by the same rules, keeps the whole history of uploads and moves none. Definitions only.
use Rattle.std.specs.Prelude.{ℕ, List, [], ◌∷◌, ◌++◌, length, replicate}
use Rattle.screen.specs.Plane.{plane_bytes}
use Rattle.screen.specs.Draw.{pixels}
use Rattle.screen.specs.Depths.{far_ints, far_floats}
use Rattle.verdict.specs.Verdict.{no_notes}
use Rattle.settings.specs.Settings as settings
use Rattle.store.specs.declared.Kind.{Kind}
use Rattle.store.specs.declared.Kind.TheVariants.{Texture, Model}
use Rattle.store.specs.Uploads.{Whole, cards, find, live, room}
use Rattle.execute.specs.Paints.{picture}
use Rattle.execute.specs.Control.{Keep, Control, Seen}

-- the whole history of uploads: every accepted one, the newest first; and the payload of the command begun
pub record Past : Type 0 where
  pub textures : List Whole
  pub models : List Whole
  pub payload : List ℕ

abbrev pub past : List Whole → List Whole → List ℕ → Past
past t m p = record { textures = t; models = m; payload = p }

-- the history of one kind
abbrev pub history : Past → Kind → List Whole
history h Texture = h.textures
history h Model = h.models

-- one more accepted upload: none is moved, none dropped
abbrev pub accepted : Past → Kind → Whole → Past
accepted h Texture u = past (u ∷ h.textures) h.models h.payload
accepted h Model u = past h.textures (u ∷ h.models) h.payload

-- `size k` is the length of the store lent for the kind k
abbrev pub as_past : (Kind → ℕ) → Keep Past
as_past size = record {
  -- the last accepted upload of the kind under the number, or none
  look = λ h k n. find n (history h k);
  -- rule 8.5 over that history: the last upload of each number counts
  room = λ h l. room (size l.kind) (cards (live (history h l.kind))) l.whole.number (length l.whole.words);
  put = λ h l. accepted h l.kind l.whole;
  payload = λ h. h.payload;
  add = λ w h. past h.textures h.models (h.payload ++ (w ∷ []));
  clear = λ h. past h.textures h.models [];
}

-- what a reset answered 0 leaves: the fresh settings, status 0, no command begun, and no history
abbrev pub plain_fresh : Control Past
plain_fresh = record { settings = settings.fresh; notes = no_notes; opcode = 0; wanted = 0; box = past [] [] [] }

-- with the picture as a reset leaves it
abbrev pub plain_start : Seen Past
plain_start = record { control = plain_fresh; picture = picture (replicate plane_bytes 0) (far_ints pixels) (far_floats pixels) }
