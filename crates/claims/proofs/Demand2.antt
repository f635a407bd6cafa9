-- Demand 2: inside the domain, plane, both depths and status after each call are those of the original with the sprites of section 11; if no sprite is accepted, those of the original as it is (proofs/Sprites.antt). Word by word the plain machine of demand 3 is the original, since there every upload has room and every flat triangle is near. Assumes nothing.
use Prim.Native.Nat.{ℕ, ◌-◌, ◌/◌, ◌%◌}
use Rattle.verdict.specs.Verdict.{Verdict, done, refused}
use Rattle.std.specs.Prelude.{Some, None, Ok, Err}
use Rattle.std.specs.Prelude as std
use mathlib.Core.Path.{◌≡◌, refl, sym, ap, ◌∙◌}
use mathlib.Core.Bool.{Bool, true, false, cond, ◌&&◌}
use mathlib.Core.Option.{Option, none, some}
use mathlib.Core.List.{List, [], ◌∷◌, ◌++◌, flatten}
use native.Mathlib.Omega.{arith}
use lib.Bits.{bit_or, or_zero_r}
use lib.Dec.{eqb, ltb}
use lib.IntN.{ℤ, nat_abs}
use lib.Ieee.{Float}
use lib.ListN.{length}
use borrow.Author.Tests.{eqb-true, eqb-false, eq-eqb, ne_eqb, le-leb}
use Rattle.verdict.specs.Verdict.{bits_of}
use Rattle.verdict.specs.declared.Reason.TheVariants.{ZeroOpcode, CountTooLarge}
use Rattle.payload.specs.Words.{when_done}
use Rattle.settings.specs.declared.Settings.{Settings}
use Rattle.store.specs.declared.Kind.{Kind}
use Rattle.store.specs.declared.Kind.TheVariants.{Texture, Model}
use Rattle.store.specs.Uploads.{Whole, find}
use Rattle.flat.specs.Words.{signed_at, in_reach, first_out, flat_verdict, tri_of}
use Rattle.state.specs.State.{most_payload}
use Rattle.execute.specs.Paints.{Picture, flat, paints_on}
use Rattle.command.specs.declared.Draw.TheVariants as draw
use Rattle.command.specs.declared.Command.{Command}
use Rattle.command.specs.declared.Command.TheVariants.{Sets, Loads, Paints}
use Rattle.command.specs.Command.{command_of}
use Rattle.execute.specs.Commands.{Look, Load, Told, tells, loading, texture_verdict, count_verdict, texture_in, model_in, flat_painted, told_by, told_as, told}
use Rattle.execute.proofs.Told.{told_as_lem, command-of_12}
use Rattle.execute.proofs.Painted.{painted-whole}
use Rattle.execute.specs.Control as control
use Rattle.execute.specs.Control.{Control, Step, Seen, stepped, verdict_of, kept_of}
use Rattle.run.specs.Framing.{dropped, header, gather, word, word_on, run}
use Rattle.execute.specs.Kept.{Machine}
use Rattle.vpu.specs.Calls.{Small, reset}
use Rattle.run.proofs.Laws.{run-append}
use Rattle.claims.specs.Plain.{Past, history, accepted, as_past, plain_start}
use Rattle.claims.specs.Runs.{reset_on, Call, after_all, AllAllowed, after, feeds, own, sizes, plain_after, plain_all}
use Rattle.claims.specs.Original.{Vpu, new, inserted, kept, copies, arm, execute, marked, waiting, await, pump, push, pushes}
use Rattle.claims.specs.Domain.{Near, Within, Fine, AllFine, InDomain, calls, singles}
use Rattle.claims.proofs.Reasons.{told_so}
use Rattle.claims.proofs.Demand3.{demand3, reset_again}

-- ---- what the arms say
abbrev corners : List ℕ
corners = 0 ∷ 1 ∷ 3 ∷ 4 ∷ 6 ∷ 7 ∷ []

near-done : (p ks : List ℕ) → Near p ks → first_out p ks ≡ done
unfolding in_reach
near-done p [] h = refl
near-done p (k ∷ ks) h = rw (le-leb (nat_abs (signed_at p k)) 8192 h.0) (near-done p ks h.1)

flat-told : (held : Look) (s : Settings) (p : List ℕ) → length p ≡ 11 → Near p corners → told held s 0x12 p ≡ tells done s (flat (tri_of p) ∷ [])
unfolding flat_painted flat_verdict
flat-told held s p n h = told_as_lem held s 0x12 p command-of_12 ∙ ap (told_by s) (painted-whole held s draw.Flat p n) ∙ rw (near-done p corners h)

-- a near triangle is drawn by both, and the other arms are one text
arm-told : (held : Look) (s : Settings) (op : ℕ) (p : List ℕ) → (op ≡ 0x12 → length p ≡ 11 → Near p corners) → arm copies held s op p ≡ told held s op p
unfolding arm
arm-told held s op p h = ten (eqb op 0x10) refl
  where
    go : (a : Bool) → eqb op 0x12 ≡ a → (b : Bool) → eqb (length p) 11 ≡ b → cond (a && b) (tells done s (flat (tri_of p) ∷ [])) (told held s op p) ≡ told held s op p
    go true e true f =
        let o : op ≡ 0x12 = eqb-true op 0x12 e in
        let n : length p ≡ 11 = eqb-true (length p) 11 f in
        rw o (sym (flat-told held s p n (h o n)))
    go true e false f = refl
    go false e b f = refl

    ten : (a : Bool) → eqb op 0x10 ≡ a
        → cond a (told held s 0x10 p) (cond (eqb op 0x12 && eqb (length p) 11) (tells done s (flat (tri_of p) ∷ [])) (told held s op p)) ≡ told held s op p
    ten true e = rw (eqb-true op 0x10 e)
    ten false e = go (eqb op 0x12) refl (eqb (length p) 11) refl

-- what is to be kept passed its checks
abbrev Passes : Told → Type 0
Passes t = (l : Load) → t.load ≡ some l → t.verdict ≡ done

loading-done : (v : Verdict) (s : Settings) (m : Load) → Passes (loading v s m)
loading-done (Ok u) s m l e = refl
loading-done (Err why) s m l e = let z : ◌≡◌ {A = ℕ} 0 1 = cc in absurd (omega arith)

nothing : {A : Type 0} {a b : A} {l : Load} → none ≡ some l → a ≡ b
nothing e = let z : ◌≡◌ {A = ℕ} 0 1 = cc in absurd (omega arith)

as_done : (held : Look) (s : Settings) (c : std.Option Command) (p : List ℕ) → Passes (told_as held s c p)
as_done held s (Some (Sets x)) p = λ l e. nothing e
as_done held s (Some (Loads Texture)) p = loading-done (texture_verdict p) s (texture_in p)
as_done held s (Some (Loads Model)) p = loading-done (count_verdict p) s (model_in p)
as_done held s (Some (Paints d)) p = λ l e. nothing e
as_done held s None p = λ l e. nothing e

load-done : (held : Look) (s : Settings) (op : ℕ) (p : List ℕ) → Passes (told held s op p)
load-done held s op p = rw (told_as_lem held s op p refl) (as_done held s (command_of op) p)

-- a command without words has nothing to be kept
as_empty : (held : Look) (s : Settings) (c : std.Option Command) → (told_as held s c []).load ≡ none
unfolding texture_verdict count_verdict
as_empty held s (Some (Sets x)) = refl
as_empty held s (Some (Loads Texture)) = refl
as_empty held s (Some (Loads Model)) = refl
as_empty held s (Some (Paints d)) = refl
as_empty held s None = refl

empty_load : (held : Look) (s : Settings) (op : ℕ) → (told held s op []).load ≡ none
empty_load held s op = rw (told_as_lem held s op [] refl) (as_empty held s (command_of op))

-- and any other verdict of an arm sets bit 3
abbrev Third : Verdict → Type 0
Third v = bits_of v ≡ when_done v 0 8

third : (held : Look) (s : Settings) (op : ℕ) (p : List ℕ) → Third (told held s op p).verdict
third held s op p = told_so Third refl (λ i. refl) (λ i. refl) refl refl refl refl held s op p

third-status : (v : Verdict) (s : ℕ) → Third v → bit_or s (bits_of v) ≡ when_done v s (bit_or s 8)
third-status (Ok u) s h = or_zero_r s
third-status (Err e) s h = ap (bit_or s) h

-- ---- uploads: a history's newest under a number is what a map holds there
look-cleared : (size : Kind → ℕ) (h : Past) (k : Kind) → history ((as_past size).clear h) k ≡ history h k
look-cleared size h Texture = refl
look-cleared size h Model = refl

look-put : (h : Past) (j : Kind) (u : Whole) (k : Kind) (n : ℕ) → find n (history (accepted h j u) k) ≡ inserted (λ i m. find m (history h i)) j u k n
look-put h Texture u Texture n = refl
look-put h Texture u Model n = refl
look-put h Model u Texture n = refl
look-put h Model u Model n = refl

module _ (size : Kind → ℕ) where
  kept_same : (h : Past) (o : Option Load) → ((l : Load) → o ≡ some l → (as_past size).room h l ≡ Ok _)
      → (as_past size).look ((as_past size).clear (kept_of (as_past size) h o)) ≡ kept ((as_past size).look h) o
  kept_same h none fits = λ i k n. ap (find n) (look-cleared size h k) i
  kept_same h (some l) fits =
      rw (fits l refl) (λ i k n. (ap (find n) (look-cleared size (accepted h l.kind l.whole) k) ∙ look-put h l.kind l.whole k n) i)

  status_same : (h : Past) (s : ℕ) (t : Told) → Third t.verdict → Passes t → ((l : Load) → t.load ≡ some l → (as_past size).room h l ≡ Ok _)
      → bit_or s (bits_of (verdict_of (as_past size) h t t.load)) ≡ when_done t.verdict s (bit_or s 8)
  status_same h s t low passes fits = go t.load refl
    where
      go : (o : Option Load) → t.load ≡ o → bit_or s (bits_of (verdict_of (as_past size) h t o)) ≡ when_done t.verdict s (bit_or s 8)
      go none e = third-status t.verdict s low
      go (some l) e = rw (fits l e, passes l e) (or_zero_r s)

-- ---- the plain machine and the original, side by side
-- none is begun, or the same command is, with as many words to come
data Begun (c : Control Past) (v : Vpu) : Type 0 where
  idle : c.wanted ≡ 0 → c.box.payload ≡ [] → v.expected ≡ none → Begun c v
  busy : (c.wanted ≡ 0 → ⊥) → v.expected ≡ some c.wanted → v.command ≡ c.opcode ∷ c.box.payload → Begun c v

-- one word is left, as the port and as the original ask
one_left : (n : ℕ) → (n ≡ 0 → ⊥) → eqb (n - 1) 0 ≡ eqb n 1
one_left n h = go (eqb n 1) refl
  where
    go : (b : Bool) → eqb n 1 ≡ b → eqb (n - 1) 0 ≡ b
    go true e = eq-eqb (n - 1) 0 (omega (arith, eqb-true n 1 e))
    go false e = ne_eqb (n - 1) 0 (λ z. let y : n ≡ 0 → ⊥ = h in eqb-false n 1 e (omega arith))

module _ (size : Kind → ℕ) where
  abbrev K : control.Keep Past
  K = as_past size

  record Agree (m : Seen Past) (v : Vpu) : Type 0 where
    picture : m.picture ≡ v.picture
    settings : m.control.settings ≡ v.settings
    uploads : K.look m.control.box ≡ v.uploads
    status : m.control.notes.status ≡ v.status
    begun : Begun m.control v

  record Goes (p : Picture) (s : Step Past) (v : Vpu) : Type 0 where
    goes : Agree (stepped s p) v

  by_test : (b : Bool) {p : Picture} {x y : Step Past} {x' y' : Vpu} → (b ≡ true → Goes p x x') → (b ≡ false → Goes p y y') → Goes p (cond b x y) (cond b x' y')
  by_test true p q = p refl
  by_test false p q = q refl

  -- a command without words is neither a flat triangle of right length nor an upload that passes its checks
  empty_within : (c : Control Past) → c.box.payload ≡ [] → Within size c
  empty_within c e = record {
    near = λ o n. let z : length c.box.payload ≡ 0 = ap length e in absurd (omega arith);
    fits = λ l f.
        let none_kept : (told (K.look c.box) c.settings c.opcode c.box.payload).load ≡ none =
        ap (λ (p : List ℕ). (told (K.look c.box) c.settings c.opcode p).load) e ∙ empty_load (K.look c.box) c.settings c.opcode in
        nothing (sym none_kept ∙ f);
  }

  module _ (m : Seen Past) (v : Vpu) (a : Agree m v) where
    -- a command of the domain, begun or gathered on these
    execute_agrees : (op n : ℕ) (h : Past) (command : List ℕ) (left : ℕ) → K.look h ≡ K.look m.control.box → command ≡ op ∷ h.payload
        → Within size (record { settings = m.control.settings; notes = m.control.notes; opcode = op; wanted = n; box = h })
        → Goes m.picture (control.execute K (record { settings = m.control.settings; notes = m.control.notes; opcode = op; wanted = n; box = h })) (execute copies (waiting v command left))
    unfolding control.execute execute
    execute_agrees op n h command left looks e d =
        let t : Told = told (K.look h) m.control.settings op h.payload in
        let same : arm copies v.uploads v.settings op h.payload ≡ t = rw (sym a.uploads, sym looks, sym a.settings) (arm-told (K.look h) m.control.settings op h.payload d.near) in
        rw (e, same)
        (record {
          goes = record {
            picture = ap (paints_on t.paints) a.picture;
            settings = refl;
            uploads = kept_same size h t.load d.fits ∙ ap (λ (x : Look). kept x t.load) (looks ∙ a.uploads);
            status =
                status_same size h m.control.notes.status t (third (K.look h) m.control.settings op h.payload) (load-done (K.look h) m.control.settings op h.payload) d.fits
                ∙ ap (λ (x : ℕ). when_done t.verdict x (bit_or x 8)) a.status;
            begun = idle refl refl refl;
          };
        })

    dropped_agrees : (op : ℕ) (w : Verdict) (bit : ℕ) → bits_of w ≡ bit → Begun (dropped K m.control op w).control (marked v bit) → Goes m.picture (dropped K m.control op w) (marked v bit)
    unfolding paints_on
    dropped_agrees op w bit e b = record { goes = record { picture = a.picture; settings = a.settings; uploads = a.uploads; status = rw (a.status, e); begun = b } }

    header_agrees : (w : ℕ) → m.control.wanted ≡ 0 → m.control.box.payload ≡ [] → v.expected ≡ none → Goes m.picture (word K m.control w) (pump copies v w none)
    unfolding word header await paints_on
    header_agrees w z p x =
        let op : ℕ = w / 16777216 in
        let n : ℕ = w % 16777216 in
        rw (eq-eqb m.control.wanted 0 z)
        (by_test (eqb op 0) (λ e. dropped_agrees op (refused ZeroOpcode 0) 4 refl (idle z p x))
        (λ e. by_test (ltb most_payload n) (λ f. dropped_agrees op (refused CountTooLarge 0) 8 refl (idle z p x))
        (λ f. by_test (eqb n 0) (λ g. execute_agrees op 0 m.control.box (op ∷ []) n refl (rw p) (empty_within _ p))
        (λ g. record { goes = record { picture = a.picture; settings = a.settings; uploads = a.uploads; status = a.status; begun = busy (eqb-false n 0 g) refl (rw p) } }))))

    look-added : (w : ℕ) (h : Past) (k : Kind) → history (K.add w h) k ≡ history h k
    look-added w h Texture = refl
    look-added w h Model = refl

    gather_agrees : (w : ℕ) → (m.control.wanted ≡ 0 → ⊥) → v.command ≡ m.control.opcode ∷ m.control.box.payload → Fine size m w
        → Goes m.picture (word K m.control w) (pump copies v w (some m.control.wanted))
    unfolding word gather await paints_on
    gather_agrees w z c fine =
        let looks : K.look (K.add w m.control.box) ≡ K.look m.control.box = λ i k n. ap (find n) (look-added w m.control.box k) i in
        let more : v.command ++ (w ∷ []) ≡ m.control.opcode ∷ (K.add w m.control.box).payload = ap (λ (l : List ℕ). l ++ (w ∷ [])) c in
        rw (ne_eqb m.control.wanted 0 z, one_left m.control.wanted z)
        (by_test (eqb m.control.wanted 1)
        (λ e. execute_agrees m.control.opcode (m.control.wanted - 1) (K.add w m.control.box) (v.command ++ (w ∷ [])) (m.control.wanted - 1) looks more (fine (eqb-true m.control.wanted 1 e)))
        (λ e. record { goes = record { picture = a.picture; settings = a.settings; uploads = looks ∙ a.uploads; status = a.status; begun = busy (λ y. eqb-false m.control.wanted 1 e (omega arith)) refl more } }))

    word_agrees : (w : ℕ) → Fine size m w → Agree (word_on K m w) (push copies v w)
    unfolding push
    word_agrees w fine = go a.begun
      where
        go : Begun m.control v → Agree (word_on K m w) (pump copies v w v.expected)
        go (idle z p x) = rw (ap (pump copies v w) x) (header_agrees w z p x).goes
        go (busy z x c) = rw (ap (pump copies v w) x) (gather_agrees w z c fine).goes

  run_agrees : (ws : List ℕ) (m : Seen Past) (v : Vpu) → Agree m v → AllFine size m ws → Agree (run K m ws) (pushes copies v ws)
  unfolding run pushes AllFine
  run_agrees [] m v a f = a
  run_agrees (w ∷ ws) m v a f = run_agrees ws (word_on K m w) (push copies v w) (word_agrees m v a w f.0) f.1

  start_agrees : Agree plain_start new
  start_agrees = record { picture = refl; settings = refl; uploads = λ i k n. nothing_yet k n i; status = refl; begun = idle refl refl refl }
    where
      nothing_yet : (k : Kind) (n : ℕ) → K.look plain_start.control.box k n ≡ none
      nothing_yet Texture n = refl
      nothing_yet Model n = refl

  -- what begins a stream of the domain is in it
  begins : (a b : List ℕ) (m : Seen Past) → AllFine size m (a ++ b) → AllFine size m a
  unfolding AllFine
  begins [] b m f = tt
  begins (w ∷ a) b m f = (f.0, begins a b (word_on K m w) f.1)

-- ---- calls
small_begins : (a b : List ℕ) → Small (a ++ b) → Small a × Small b
small_begins [] b s = (tt, s)
small_begins (w ∷ a) b s = let r = small_begins a b s.1 in ((s.0, r.0), r.1)

allowed : (wss : List (List ℕ)) (m : Machine) → Small (flatten wss) → AllAllowed m (calls wss)
unfolding AllAllowed flatten
allowed [] m s = tt
allowed (ws ∷ wss) m s = let r = small_begins ws (flatten wss) s in (r.0, allowed wss (after m (feeds own ws)) r.1)

plain_calls : (size : Kind → ℕ) (wss : List (List ℕ)) (n : Seen Past) → plain_all size n (calls wss) ≡ run (as_past size) n (flatten wss)
unfolding plain_all plain_after run flatten
plain_calls size [] n = refl
plain_calls size (ws ∷ wss) n = plain_calls size wss (run (as_past size) n ws) ∙ sym (run-append (as_past size) n ws (flatten wss))

singles-flat : (ws : List ℕ) → flatten (singles ws) ≡ ws
unfolding flatten
singles-flat [] = refl
singles-flat (w ∷ ws) = ap (λ (l : List ℕ). w ∷ l) (singles-flat ws)

pub domain_begins : (size : Kind → ℕ) (a b : List ℕ) → InDomain size (a ++ b) → InDomain size a
domain_begins size a b d = ((small_begins a b d.0).0, begins size a b plain_start d.1)

-- ---- DEMAND 2
-- P, D, F, C, T and M: what is lent for a reset that is answered 0
module _ (P : List ℕ) (D : List ℤ) (F : List Float) (C T M : List ℕ) (done : (reset P D F C T M).answer ≡ 0) where
  -- after each call: for any calls in the domain, and so for those that began them, by `domain_begins`
  pub demand2 : (wss : List (List ℕ)) → InDomain (sizes T M) (flatten wss)
      → ((after_all (reset P D F C T M).machine (calls wss)).picture ≡ (pushes copies new (flatten wss)).picture)
      × ((after_all (reset P D F C T M).machine (calls wss)).control.notes.status ≡ (pushes copies new (flatten wss)).status)
  demand2 wss d =
      let plain = demand3 P D F C T M done (calls wss) (allowed wss (reset P D F C T M).machine d.0) in
      let o = run_agrees (sizes T M) (flatten wss) plain_start new (start_agrees (sizes T M)) d.1 in
      let n = plain_calls (sizes T M) wss plain_start in
      (plain.0 ∙ ap (λ (m : Seen Past). m.picture) n ∙ o.picture, plain.1 ∙ ap (λ (m : Seen Past). m.control.notes.status) n ∙ o.status)

  -- after each call, whatever words come after it
  pub demand2_each : (wss : List (List ℕ)) (rest : List ℕ) → InDomain (sizes T M) (flatten wss ++ rest)
      → ((after_all (reset P D F C T M).machine (calls wss)).picture ≡ (pushes copies new (flatten wss)).picture)
      × ((after_all (reset P D F C T M).machine (calls wss)).control.notes.status ≡ (pushes copies new (flatten wss)).status)
  demand2_each wss rest d = demand2 wss (domain_begins (sizes T M) (flatten wss) rest d)

  -- and word by word
  pub demand2_words : (ws : List ℕ) → InDomain (sizes T M) ws
      → ((after_all (reset P D F C T M).machine (calls (singles ws))).picture ≡ (pushes copies new ws).picture)
      × ((after_all (reset P D F C T M).machine (calls (singles ws))).control.notes.status ≡ (pushes copies new ws).status)
  demand2_words ws d = rw (singles-flat ws) at (demand2 (singles ws) (rw (singles-flat ws) d))

-- a reset in the midst of a run, which is answered 0: whatever calls came before it, in the domain or not
pub demand2_again : (P : List ℕ) (D : List ℤ) (F : List Float) (C T M : List ℕ) (done : (reset P D F C T M).answer ≡ 0) (cs : List Call)
    → AllAllowed (reset P D F C T M).machine cs → (wss : List (List ℕ))
    → InDomain (sizes (after_all (reset P D F C T M).machine cs).control.box.textures.words (after_all (reset P D F C T M).machine cs).control.box.models.words) (flatten wss)
    → ((after_all (reset_on (after_all (reset P D F C T M).machine cs)).machine (calls wss)).picture ≡ (pushes copies new (flatten wss)).picture)
    × ((after_all (reset_on (after_all (reset P D F C T M).machine cs)).machine (calls wss)).control.notes.status ≡ (pushes copies new (flatten wss)).status)
demand2_again P D F C T M done cs before = demand2 _ _ _ _ _ _ (reset_again P D F C T M done cs before)
