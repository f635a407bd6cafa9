-- The table of thirteen: `thirteen`. After a reset words leave what they leave on the plain machine, which antt computes; a clear is computed over any memory; the rest is cited. Assumes nothing.
use Prim.Native.Nat.{ℕ, ◌≤◌}
use mathlib.Core.Path.{◌≡◌, refl, ap, ◌∙◌}
use mathlib.Core.List.{List, [], ◌∷◌, ◌++◌}
use native.Mathlib.Omega.{arith}
use borrow.Author.Tests.{eq-eqb, le-ltb}
use lib.Bits.{bit_or}
use lib.ListN.{length, set, take, drop, drop_of_length-le}
use Rattle.laws.specs.Cells.{map_at}
use Rattle.screen.specs.Plane.{paint}
use Rattle.screen.specs.Draw.{pixels}
use Rattle.screen.proofs.Cases as screen
use Rattle.raster.proofs.Cases as raster
use Rattle.ieee.proofs.Examples as ieee
use Rattle.screen.specs.Depths.{far_ints, far_floats}
use Rattle.verdict.specs.Verdict.{bits_of}
use Rattle.verdict.specs.declared.Notes.{Notes}
use Rattle.payload.specs.Words.{at_most}
use Rattle.settings.specs.declared.Settings.{Settings}
use Rattle.state.proofs.Formed.{parts, begun_idle}
use Rattle.store.specs.declared.Kind.{Kind}
use Rattle.store.specs.declared.Kind.TheVariants.{Texture, Model}
use Rattle.store.specs.Uploads.{Whole, cards, live, words_of, total}
use Rattle.store.specs.Slots.{whole_of, view}
use Rattle.store.proofs.Kept.{Keeps, keeps_view, keeps_look}
use Rattle.flat.specs.Words.{tri_of, flat_verdict, in_reach}
use Rattle.flat.proofs.Cases as cases
use Rattle.flat.proofs.Cases.{corner}
use Rattle.execute.specs.Paints as paints
use Rattle.execute.specs.Paints.{Picture, picture, paint_on, paints_on}
use Rattle.command.specs.Command.{command_of}
use Rattle.execute.specs.Commands.{told, texture_verdict, painted_by, clear_painted, clear_paints, flat_painted, rgba_of}
use Rattle.execute.specs.Control.{Seen, execute}
use Rattle.execute.specs.Kept.{Shelf, box, Machine, as_box, state_of}
use Rattle.run.specs.Framing.{word, header, gather, run}
use Rattle.vpu.specs.Calls.{Lengths, reset}
use Rattle.claims.specs.Plain.{Past, as_past, plain_fresh, plain_start}
use Rattle.claims.specs.Runs.{feed_on, after_all, AllAllowed}
use Rattle.claims.specs.Thirteen as table
use Rattle.claims.specs.Thirteen.{InStore, HeaderNext, status_of, utmost, three}
use Rattle.claims.proofs.Calls.{feed_answers}
use Rattle.claims.proofs.Demand3.{fed_done, words-shown}
use Rattle.claims.proofs.Flats.{fresh_start, shown_six, shown_seven, shown_eight, shown-utmost}

-- ---- after a reset: the machine beside the plain one
-- stores of t and m words
abbrev pub given : ℕ → ℕ → Kind → ℕ
given t m Texture = t
given t m Model = m

-- the plain machine as a reset leaves it, whatever picture it has
abbrev pub from : Picture → Seen Past
from p = record { control = plain_fresh; picture = p }

-- m is seen as the plain machine n is, with a texture store of t words
pub record As (t : ℕ) (m : Machine) (n : Seen Past) : Type 0 where
  pub status : status_of m ≡ n.control.notes.status
  pub opcode : m.control.opcode ≡ n.control.opcode
  pub wanted : m.control.wanted ≡ n.control.wanted
  pub gathered : m.control.box.gathered ≡ length n.control.box.payload
  pub picture : m.picture ≡ n.picture
  pub textures : Keeps Texture t m.control.box.textures.slots m.control.box.textures.words n.control.box.textures

-- so what holds of every machine that is seen so, holds after the reset
pub by_plain : {R : ℕ → Type 0} {ws : List ℕ} {Q : Machine → Type 0}
    → ((t u : ℕ) → R t → (m : Machine) → As t m (run (as_past (given t u)) plain_start ws) → Q m) → InStore R ws Q
unfolding after_all AllAllowed
by_plain {ws = ws} h = record {
  holds = λ P D F C T M done r.
      let zero : (feed_on (reset P D F C T M).machine ws).answer ≡ 0 = fed_done P D F C T M done [] tt ws in
      let is = (feed_answers _ _ _ _ _ _ (state_of (reset P D F C T M).machine) ws).done zero in
      let s = words-shown P D F C T M done (given (length T) (length M)) refl refl ws in (
        zero,
        rw is
            (h (length T) (length M) r _
            (record {
              status = ap (λ (n : Notes). n.status) s.control.notes;
              opcode = s.control.opcode;
              wanted = s.control.wanted;
              gathered = s.control.box.gathered;
              picture = s.picture;
              textures = s.control.box.textures;
            })),
      );
}

-- a plain machine with no command begun, and this status
record Idle (n : Seen Past) (status : ℕ) : Type 0 where
  status-is : n.control.notes.status ≡ status
  opcode-none : n.control.opcode ≡ 0
  payload-none : length n.control.box.payload ≡ 0
  wanted-none : n.control.wanted ≡ 0

header_next : {t : ℕ} {m : Machine} {n : Seen Past} {status : ℕ} → As t m n → Idle n status → (status_of m ≡ status) × HeaderNext m
header_next a i =
    (a.status ∙ i.status-is, record { opcode = a.opcode ∙ i.opcode-none; gathered = a.gathered ∙ i.payload-none; wanted = a.wanted ∙ i.wanted-none })

module _ (t u : ℕ) (p : Picture) where
  -- what words leave on the plain machine
  abbrev left : List ℕ → Seen Past
  left ws = run (as_past (given t u)) (from p) ws

  -- ---- 1 and 2: headers
  zero-opcode : Idle (left (0x0000_0005 ∷ [])) 4
  unfolding run word header
  zero-opcode = record { status-is = refl; opcode-none = refl; payload-none = refl; wanted-none = refl }

  no_payload : Idle (left (0x0400_0000 ∷ [])) 8
  unfolding run word header execute told command_of painted_by
  no_payload = record { status-is = refl; opcode-none = refl; payload-none = refl; wanted-none = refl }

  too_many : Idle (left (0x0408_0004 ∷ [])) 8
  unfolding run word header
  too_many = record { status-is = refl; opcode-none = refl; payload-none = refl; wanted-none = refl }

  as_many : ((left (0x1708_0003 ∷ [])).control.notes.status ≡ 0) × ((left (0x1708_0003 ∷ [])).control.opcode ≡ 0x17) × ((left (0x1708_0003 ∷ [])).control.wanted ≡ 524291)
  unfolding run word header
  as_many = (refl, refl, refl)

  -- ---- 6, 7, 8 and 10: flat triangles
  flat_left : (z0 z1 z2 : ℕ) → (left (table.flat z0 z1 z2)).picture ≡ paint_on (paints.flat (tri_of (corner z0 z1 z2))) p
  unfolding run word header gather execute told command_of painted_by flat_painted flat_verdict in_reach paints_on
  flat_left z0 z1 z2 = refl

  utmost_left : ((left (0x1200_000b ∷ utmost)).control.notes.status ≡ 0) × ((left (0x1200_000b ∷ utmost)).picture ≡ paint_on (paints.flat (tri_of utmost)) p)
  unfolding run word header gather execute told command_of painted_by flat_painted flat_verdict in_reach paints_on
  utmost_left = (refl, refl)

  -- one coordinate beyond, on either side
  abbrev Out : ℕ → Type 0
  Out k = ((left (0x1200_000b ∷ set utmost k 8193)).control.notes.status ≡ 8) × ((left (0x1200_000b ∷ set utmost k 4294959103)).control.notes.status ≡ 8)

  beyond_left : Out 0 × Out 1 × Out 3 × Out 4 × Out 6 × Out 7
  unfolding run word header gather execute told command_of painted_by flat_painted flat_verdict in_reach
  beyond_left = ((refl, refl), (refl, refl), (refl, refl), (refl, refl), (refl, refl), (refl, refl))

  -- ---- 3: clears that are refused
  clear_left : (rgba v : ℕ) → ((left (table.clear 4 rgba v)).control.notes.status ≡ 8) × ((left (table.clear 7 rgba v)).control.notes.status ≡ 8)
  unfolding run word header gather execute told command_of painted_by clear_painted
  clear_left rgba v = (refl, refl)

  -- ---- 11 and 12: textures
  one_left : (n : ℕ) → 1 ≤ t → ((left (0x1700_0004 ∷ n ∷ 1 ∷ 1 ∷ 0xf0a5_1234 ∷ [])).control.notes.status ≡ 0) × ((left (0x1700_0004 ∷ n ∷ 1 ∷ 1 ∷ 0xf0a5_1234 ∷ [])).control.box.textures ≡ whole_of n 1 1 (0xf0a5_1234 ∷ []) ∷ [])
  unfolding run word header gather execute told command_of texture_verdict
  one_left n h = rw (le-ltb t 1 h) (refl, refl)

-- 12 on the plain machine, with a texture store of t words
abbrev Again : ℕ → Type 0
Again t =
    (u : ℕ) (p : Picture)
    → ((run (as_past (given t u)) (from p) three).control.notes.status ≡ 0) × (live (run (as_past (given t u)) (from p) three).control.box.textures ≡ whole_of 2 2 2 (21 ∷ 22 ∷ []) ∷ whole_of 1 2 2 (31 ∷ 32 ∷ []) ∷ [])

three-four : Again 4
unfolding run word header gather execute told command_of texture_verdict
three-four u p = (refl, refl)

three_six : Again 6
unfolding run word header gather execute told command_of texture_verdict
three_six u p = (refl, refl)

-- what a store of t words shows, if t is n
stored : (u : ℕ) {t n status : ℕ} {us : List Whole} {m : Machine} → As t m (run (as_past (given t u)) plain_start three) → t ≡ n
    → ((run (as_past (given n u)) plain_start three).control.notes.status ≡ status) × (live (run (as_past (given n u)) plain_start three).control.box.textures ≡ us)
    → (status_of m ≡ status) × (view Texture m.control.box.textures.slots m.control.box.textures.words ≡ us)
stored u a r l = (
  a.status ∙ ap (λ (k : ℕ). (run (as_past (given k u)) plain_start three).control.notes.status) r ∙ l.0,
  keeps_view a.textures ∙ ap (λ (k : ℕ). live (run (as_past (given k u)) plain_start three).control.box.textures) r ∙ l.1,
)

-- a store of 4 words is full, so its words are those of the two
full : (u : ℕ) {t : ℕ} {m : Machine} → As t m (run (as_past (given t u)) plain_start three) → t ≡ 4 → m.control.box.textures.words ≡ 21 ∷ 22 ∷ 31 ∷ 32 ∷ []
full u {m = m} a r =
    let store : List ℕ = m.control.box.textures.words in
    let us = ap (λ (k : ℕ). live (run (as_past (given k u)) plain_start three).control.box.textures) r ∙ (three-four u _).1 in
    let short : length store ≤ 4 = omega (arith, a.textures.long) in
    a.textures.rep.words_are ∙ ap (λ (l : List Whole). words_of l ++ drop (total (cards l)) store) us ∙ ap (λ (l : List ℕ). 21 ∷ 22 ∷ 31 ∷ 32 ∷ l) (drop_of_length-le store short)

-- ---- 3 and 4: clears, over any state and memory
three-words : (C : List ℕ) (a b c : ℕ) → 3 ≤ length C → take 3 (set (set (set C 0 a) 1 b) 2 c) ≡ a ∷ b ∷ c ∷ []
three-words [] a b c h = absurd (omega arith)
three-words (x ∷ []) a b c h = absurd (omega arith)
three-words (x ∷ y ∷ []) a b c h = absurd (omega arith)
three-words (x ∷ y ∷ z ∷ C) a b c h = refl

-- what a clear leaves
record Cleared (a b c : ℕ) (m n : Machine) : Type 0 where
  status : status_of n ≡ bit_or (status_of m) (bits_of (at_most (a ∷ b ∷ c ∷ []) 0 3))
  picture : n.picture ≡ paints_on (clear_paints (a ∷ b ∷ c ∷ [])) m.picture

module _ (s : Settings) (n : Notes) (t m : Shelf) (C : List ℕ) (p : Picture) where
  -- no command is begun
  abbrev waiting : Machine
  waiting = record { control = record { settings = s; notes = n; opcode = 0; wanted = 0; box = box t m C 0 }; picture = p }

  clear-run : 3 ≤ length C → (a b c : ℕ) → Cleared a b c waiting (run as_box waiting (table.clear a b c))
  unfolding run word header gather execute told command_of painted_by clear_painted paints_on
  clear-run h a b c = record { status = rw (three-words C a b c h); picture = rw (three-words C a b c h) }

is-waiting : (m : Machine) → m.control.opcode ≡ 0 → m.control.box.gathered ≡ 0 → m.control.wanted ≡ 0
    → m ≡ waiting m.control.settings m.control.notes m.control.box.textures m.control.box.models m.control.box.area m.picture
is-waiting m a b c =
    λ i. record {
      control = record { settings = m.control.settings; notes = m.control.notes; opcode = a i; wanted = c i; box = box m.control.box.textures m.control.box.models m.control.box.area (b i) };
      picture = m.picture;
    }

module _ (m : Machine) (ok : (feed_on m []).answer ≡ 0) (idle : m.control.wanted ≡ 0) where
  taken : Lengths (length m.picture.plane) (length m.picture.depth) (length m.picture.depth_f) (length m.control.box.area) (length m.control.box.textures.words) (length m.control.box.models.words)
  taken = ((feed_answers _ _ _ _ _ _ (state_of m) []).zero ok).0

  clear_any : (a b c : ℕ) → ((feed_on m (table.clear a b c)).answer ≡ 0) × Cleared a b c m (feed_on m (table.clear a b c)).machine
  clear_any a b c =
      let formed = ((feed_answers _ _ _ _ _ _ (state_of m) []).zero ok).1 in
      let zero : (feed_on m (table.clear a b c)).answer ≡ 0 = (feed_answers _ _ _ _ _ _ (state_of m) (table.clear a b c)).zero_if taken formed in
      let i = begun_idle m.control.opcode m.control.box.gathered m.control.wanted (parts (state_of m) _ _ formed).begun idle in
      let is : (feed_on m (table.clear a b c)).machine ≡ run as_box m (table.clear a b c) = (feed_answers _ _ _ _ _ _ (state_of m) (table.clear a b c)).done zero in
      let long : 3 ≤ length m.control.box.area = omega (arith, taken.of-command) in
      (zero, rw (is, is-waiting m i.0 i.1 idle) (clear-run _ _ _ _ _ _ long a b c))

-- ---- what the clears of 3 and 4 paint
module _ (p : Picture) (v : ℕ) where
  four-paints : (rgba : ℕ) → paints_on (clear_paints (4 ∷ rgba ∷ v ∷ [])) p ≡ p
  unfolding clear_paints paints_on
  four-paints rgba = refl

  seven_paints : (rgba : ℕ) → length p.depth ≡ pixels → length p.depth_f ≡ pixels
      → paints_on (clear_paints (7 ∷ rgba ∷ v ∷ [])) p ≡ picture (map_at (paint (rgba_of rgba)) p.plane) (far_ints pixels) (far_floats pixels)
  unfolding clear_paints paints_on paint_on
  seven_paints rgba d f = λ i. picture (map_at (paint (rgba_of rgba)) p.plane) (far_ints (d i)) (far_floats (f i))

  grey_paints : (paints_on (clear_paints (1 ∷ 0x8080_80ff ∷ v ∷ [])) p).plane ≡ map_at (paint screen.grey) p.plane
  unfolding clear_paints paints_on paint_on rgba_of
  grey_paints = refl

-- ---- the table
pub thirteen : table.Thirteen
thirteen = record {
  case_1 = (by_plain (λ t u r m a. (header_next a (zero-opcode t u _)).0), by_plain (λ t u r m a. header_next a (no_payload t u _)));
  case_2 = (
    by_plain (λ t u r m a. header_next a (too_many t u _)),
    by_plain
        (λ t u r m a.
        let l = as_many t u _ in
        (a.status ∙ l.0, a.opcode ∙ l.1, a.wanted ∙ l.2)),
  );
  case_3 = λ rgba v. (
    by_plain (λ t u r m a. a.status ∙ (clear_left t u _ rgba v).0),
    record {
      holds = λ m ok idle.
          let c = clear_any m ok idle 4 rgba v in
          (c.0, (c.1.status, c.1.picture ∙ four-paints m.picture v rgba));
    },
    by_plain (λ t u r m a. a.status ∙ (clear_left t u _ rgba v).1),
    record {
      holds = λ m ok idle.
          let c = clear_any m ok idle 7 rgba v in
          let l = taken m ok idle in
          (c.0, (c.1.status, c.1.picture ∙ seven_paints m.picture v rgba l.of-depth l.of_floats));
    },
  );
  case_4 = λ v. record {
    holds = λ m ok idle.
        let c = clear_any m ok idle 1 0x8080_80ff v in
        (c.0, rw (c.1.picture, grey_paints m.picture v) (screen.case_4 m.picture.plane (taken m ok idle).of-plane));
  };
  case_5 = screen.case_5;
  case_6 = by_plain (λ t u r m a. shown_six plain_start.picture fresh_start m (a.picture ∙ flat_left t u _ 10 10 10));
  case_7 = by_plain (λ t u r m a. shown_seven plain_start.picture fresh_start m (a.picture ∙ flat_left t u _ 0 3 4294967293));
  case_8 = by_plain (λ t u r m a. shown_eight plain_start.picture fresh_start m (a.picture ∙ flat_left t u _ 2147483647 2147483647 2147483647));
  case_9 = cases.case_9;
  case_10 = (
    by_plain
        (λ t u r m a.
        let l = utmost_left t u _ in
        let ends = shown-utmost plain_start.picture fresh_start m (a.picture ∙ l.1) in
        (a.status ∙ l.0, ends.0, ends.1)),
    (by_plain (λ t u r m a. a.status ∙ (beyond_left t u _).0.0), by_plain (λ t u r m a. a.status ∙ (beyond_left t u _).0.1)),
    (by_plain (λ t u r m a. a.status ∙ (beyond_left t u _).1.0), by_plain (λ t u r m a. a.status ∙ (beyond_left t u _).1.1)),
    (by_plain (λ t u r m a. a.status ∙ (beyond_left t u _).2.0), by_plain (λ t u r m a. a.status ∙ (beyond_left t u _).2.1)),
    (by_plain (λ t u r m a. a.status ∙ (beyond_left t u _).3.0), by_plain (λ t u r m a. a.status ∙ (beyond_left t u _).3.1)),
    (by_plain (λ t u r m a. a.status ∙ (beyond_left t u _).4.0), by_plain (λ t u r m a. a.status ∙ (beyond_left t u _).4.1)),
    (by_plain (λ t u r m a. a.status ∙ (beyond_left t u _).5.0), by_plain (λ t u r m a. a.status ∙ (beyond_left t u _).5.1)),
  );
  case_11 = λ n. (
    by_plain
        (λ t u r m a.
        let l = one_left t u _ n r in
        (a.status ∙ l.0, keeps_look a.textures n ∙ rw (l.1, eq-eqb n n refl))),
    λ u v b. raster.case_11 u v b,
  );
  case_12 = (
    by_plain
        (λ t u r m a.
        let s = stored u a r (three-four u _) in
        (s.0, s.1, full u a r)),
    by_plain (λ t u r m a. stored u a r (three_six u _)),
  );
  case_13 = (ieee.root-of-two, ieee.root-of_least);
}
