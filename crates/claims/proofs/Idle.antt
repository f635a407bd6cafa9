-- The four idle versions meet no contract: each against the claim that docs/CLAIMS.md names. Assumes nothing.
use Prim.Native.Nat.{ℕ, ◌≤◌}
use mathlib.Core.Path.{◌≡◌, refl, sym, ap, ◌∙◌}
use mathlib.Core.Option.{Option, none, some}
use mathlib.Core.List.{List, [], ◌∷◌, ◌++◌}
use native.Mathlib.Omega.{arith}
use borrow.Author.Tests.{le-ltb}
use lib.IntN.{ℤ, pos}
use lib.Ieee.{Float, binary32, of_bits}
use lib.ListN.{length, get_or, replicate, length-replicate}
use Rattle.laws.specs.Cells.{map_at}
use Rattle.screen.specs.Dither.{level_of, dither_of}
use Rattle.screen.specs.Plane.{Answered, plane_bytes, paint, shown, pixel_of}
use Rattle.screen.specs.Draw.{pixels}
use Rattle.screen.specs.Depths.{far_ints, far_floats}
use Rattle.screen.proofs.Cases.{filled_pixel}
use Rattle.store.specs.declared.Kind.{Kind}
use Rattle.store.specs.declared.Kind.TheVariants.{Texture, Model}
use Rattle.store.specs.Uploads.{Whole, find}
use Rattle.store.specs.Slots.{whole_of}
use Rattle.state.specs.State.{most_payload, fresh}
use Rattle.state.proofs.Formed.{fresh_formed}
use Rattle.command.specs.Command.{command_of}
use Rattle.execute.specs.Commands.{Look, Load, texture_in, rgba_of, told, texture_verdict}
use Rattle.execute.specs.Control.{Keep, execute}
use Rattle.execute.specs.Kept.{Machine, machine, state_of, as_box}
use Rattle.run.specs.Framing.{word, header, gather, run}
use Rattle.vpu.specs.Calls.{Outcome, reset}
use Rattle.claims.specs.Calls.{Right}
use Rattle.claims.specs.Alike.{Alike}
use Rattle.claims.specs.Plain.{Past, past, history, as_past, plain_start}
use Rattle.claims.specs.Runs.{feed_on, after_all, AllAllowed, sizes}
use Rattle.claims.specs.Thirteen.{clear, status_of}
use Rattle.claims.specs.Idle.{Feeder, Meets, NeverDone, NeverReset, NeverRead, OnePlane, NothingChanged, Blank, Twice, words_on, FirstKept, fed_by, upload, HasRoom, TwiceFed, FirstShown, draw, alpha_of}
use Rattle.claims.proofs.Slots.{Kept, alike}
use Rattle.claims.proofs.Calls.{feed_answers, reset_answers, pixel_answers}
use Rattle.claims.proofs.Demand3.{fed_done, words-shown}
use Rattle.claims.proofs.Domain.{small_of}
use Rattle.claims.proofs.Table.{thirteen}
use Rattle.claims.proofs.Drawn.{shows-one, shows_last, alphas}

-- memory of right lengths there is
somewhere : {Z : Type 0} → ((P : List ℕ) (D : List ℤ) (F : List Float) (C T M : List ℕ) → Right P D F C T M → 1 ≤ length T → Z) → Z
somewhere h =
    h (replicate plane_bytes 0) (far_ints pixels) (far_floats pixels) (replicate most_payload 0) (0 ∷ []) []
    (record {
      of-plane = length-replicate {A = ℕ} plane_bytes 0;
      of-depth = length-replicate pixels (pos 2147483647);
      of_floats = length-replicate pixels (of_bits binary32 0x3f80_0000);
      of-command = length-replicate {A = ℕ} most_payload 0;
      of-textures = omega arith;
      of-models = omega arith;
    })
    (omega arith)

-- nothing is held at first
nothing-held : (k : Kind) (i : ℕ) → find i (history (past [] [] []) k) ≡ none
nothing-held Texture i = refl
nothing-held Model i = refl

module _ (f : Feeder) (meets : Meets f) where
  -- on it the fresh state is fed
  module _ (P : List ℕ) (D : List ℤ) (F : List Float) (C T M : List ℕ) (right : Right P D F C T M) where
    abbrev m : Machine
    m = machine fresh P D F C T M

    fed : (ws : List ℕ) → (feed_on m ws).answer ≡ 0
    fed ws = (feed_answers P D F C T M fresh ws).zero_if right (fresh_formed (length T) (length M))

    done : (ws : List ℕ) → (f fresh ws P D F C T M).answer ≡ 0
    done ws = ap (λ (o : Outcome). o.answer) (meets fresh ws P D F C T M) ∙ fed ws

    left : (ws : List ℕ) → (f fresh ws P D F C T M).machine ≡ (feed_on m ws).machine
    left ws = ap (λ (o : Outcome). o.machine) (meets fresh ws P D F C T M)

    never : NeverDone f → ⊥
    never h = h fresh [] P D F C T M (done [])

    -- case 4's clear, and one to black
    grey_plane : (Q : List ℕ) → OnePlane Q f → pixel_of Q 0 0 ≡ record { number = 0; bytes = 132 ∷ 132 ∷ 132 ∷ 255 ∷ [] }
    grey_plane Q h =
        let ws = clear 1 0x8080_80ff 0 in
        let same : (feed_on m ws).machine.picture.plane ≡ Q = ap (λ (x : Machine). x.picture.plane) (sym (left ws)) ∙ h fresh ws P D F C T M (done ws) in
        ap (λ (l : List ℕ). pixel_of l 0 0) (sym same) ∙ ((thirteen.case_4 0).holds m (fed []) refl).1.0

    black_plane : (Q : List ℕ) → OnePlane Q f → pixel_of Q 0 0 ≡ record { number = 0; bytes = 0 ∷ 0 ∷ 0 ∷ 0 ∷ [] }
    unfolding shown level_of dither_of rgba_of
    black_plane Q h =
        let ws = clear 7 0 0 in
        let same : (feed_on m ws).machine.picture.plane ≡ Q = ap (λ (x : Machine). x.picture.plane) (sym (left ws)) ∙ h fresh ws P D F C T M (done ws) in
        let filled : (feed_on m ws).machine.picture.plane ≡ map_at (paint (rgba_of 0)) P = ap (λ (x : _). x.plane) ((thirteen.case_3 0 0).3.holds m (fed []) refl).1.1 in
        ap (λ (l : List ℕ). pixel_of l 0 0) (sym same ∙ filled) ∙ filled_pixel (rgba_of 0) P 0 0 right.of-plane (omega arith) (omega arith)

    two_planes : (Q : List ℕ) → OnePlane Q f → ⊥
    two_planes Q h =
        let red : ◌≡◌ {A = ℕ} 132 0 = ap (λ (a : Answered). get_or a.bytes 0 0) (sym (grey_plane Q h) ∙ black_plane Q h) in
        omega arith

    -- case 3's clear, which is refused: status 8
    some_change : NothingChanged f → ⊥
    some_change h =
        let ws = clear 7 0 0 in
        let same : status_of (feed_on m ws).machine ≡ 0 = ap status_of (sym (left ws) ∙ h fresh ws P D F C T M (done ws)) in
        let eight : status_of (feed_on m ws).machine ≡ 8 = ((thirteen.case_3 0 0).3.holds m (fed []) refl).1.0 in
        omega arith

  -- ---- always answering 1 or 2: against rule 1.5
  pub never_done : NeverDone f → ⊥
  never_done h = somewhere (λ P D F C T M right one. never P D F C T M right h)

  -- ---- one constant plane: against demand 2, by rule 9.4
  pub one-plane : (Q : List ℕ) → OnePlane Q f → ⊥
  one-plane Q h = somewhere (λ P D F C T M right one. two_planes P D F C T M right Q h)

  -- ---- changing nothing: against demand 2, by rule 9.3
  pub nothing-changed : NothingChanged f → ⊥
  nothing-changed h = somewhere (λ P D F C T M right one. some_change P D F C T M right h)

  -- ---- storing the first upload and pretending for later ones: against demand 3, since a draw must show the last accepted upload
  module _ (P : List ℕ) (D : List ℤ) (F : List Float) (C T M : List ℕ) (done : (reset P D F C T M).answer ≡ 0) (one : 1 ≤ length T) where
    abbrev n : Machine
    n = (reset P D F C T M).machine

    abbrev size : Kind → ℕ
    size = sizes T M

    -- words that f is fed leave what they leave beside the plain machine
    by_f : (ws : List ℕ) → fed_by f n ws ≡ run as_box n ws
    unfolding after_all AllAllowed
    by_f ws =
        ap (λ (o : Outcome). o.machine) (meets (state_of n) ws _ _ _ _ _ _)
        ∙ (feed_answers _ _ _ _ _ _ (state_of n) ws).done (fed_done P D F C T M done [] tt ws)

    kept : (ws : List ℕ) → Kept size (fed_by f n ws).control.box (run (as_past size) plain_start ws).control.box
    kept ws = rw (by_f ws) (words-shown P D F C T M done size refl refl ws).control.box

    blank : Blank as_box (fed_by f n []).control
    unfolding run
    blank = record {
      header_next = ap (λ (m : Machine). m.control.wanted) (by_f []) ∙ (words-shown P D F C T M done size refl refl []).control.wanted;
      none-held = λ k i. ap (λ (l : Look). l k i) ((alike size).look_same _ _ (kept [])) ∙ nothing-held k i;
    }

    -- and there is room for one word, twice
    room-one : (w : ℕ) → HasRoom (fed_by f n []) 1 w
    unfolding run
    room-one w = (alike size).room_same _ _ (texture_in (1 ∷ 1 ∷ 1 ∷ w ∷ [])) (kept []) ∙ rw (le-ltb (length T) 1 one)

    room-two : (a w : ℕ) → HasRoom (fed_by f n (upload 1 a)) 1 w
    unfolding run word header gather execute told command_of texture_verdict
    room-two a w = (alike size).room_same _ _ (texture_in (1 ∷ 1 ∷ 1 ∷ w ∷ [])) (kept (upload 1 a)) ∙ rw (le-ltb (length T) 1 one, le-ltb (length T) 1 one)

    last_shown : FirstShown f → ⊥
    last_shown h =
        let a : ℕ = 0x000f_0000 in
        let b : ℕ = 0x0005_0000 in
        let ready : TwiceFed f n [] 1 a b = record { words = (omega arith, (omega arith, (omega arith, tt))); blank = blank; room-first = room-one a; room-second = room-two a b } in
        let same : (fed_by f n (upload 1 a ++ (upload 1 b ++ draw))).picture.plane ≡ (fed_by f n (upload 1 a ++ draw)).picture.plane = h P D F C T M done [] draw 1 a b ready (small_of draw refl) in
        let shown : (ws : List ℕ) → fed_by f n ws ≡ (feed_on n ws).machine = λ ws. ap (λ (o : Outcome). o.machine) (meets (state_of n) ws _ _ _ _ _ _) in
        let z : alpha_of b ≡ alpha_of a =
        sym ((shows_last a b).holds P D F C T M done one).1 ∙ ap (λ (m : Machine). get_or m.picture.plane 3 0) (sym (shown (upload 1 a ++ (upload 1 b ++ draw))))
        ∙ ap (λ (l : List ℕ). get_or l 3 0) same ∙ ap (λ (m : Machine). get_or m.picture.plane 3 0) (shown (upload 1 a ++ draw)) ∙ ((shows-one a).holds P D F C T M done one).1 in
        omega (arith, alphas.0, alphas.1)

  pub first-shown : FirstShown f → ⊥
  first-shown h = somewhere (λ P D F C T M right one. last_shown P D F C T M ((reset_answers P D F C T M).zero_if right) one h)

-- ---- the other two calls, if they never answer 0
pub never_reset : (f : List ℕ → List ℤ → List Float → List ℕ → List ℕ → List ℕ → Outcome)
    → ((P : List ℕ) (D : List ℤ) (F : List Float) (C T M : List ℕ) → f P D F C T M ≡ reset P D F C T M) → NeverReset f → ⊥
never_reset f meets h =
    somewhere (λ P D F C T M right one. h P D F C T M (ap (λ (o : Outcome). o.answer) (meets P D F C T M) ∙ (reset_answers P D F C T M).zero_if right))

pub never_read : (f : List ℕ → ℕ → ℕ → Answered) → ((P : List ℕ) (x y : ℕ) → f P x y ≡ pixel_of P x y) → NeverRead f → ⊥
never_read f meets h =
    somewhere (λ P D F C T M right one. h P 0 0 (ap (λ (a : Answered). a.number) (meets P 0 0) ∙ (pixel_answers P 0 0).zero_if right.of-plane))

-- ---- and of a way of keeping uploads: no such one answers alike the whole history
-- two textures of 1 × 1 under the number 1
abbrev sent : ℕ → Load
sent w = record { kind = Texture; whole = whole_of 1 1 1 (w ∷ []) }

abbrev word_in : Option Whole → ℕ
word_in none = 0
word_in (some u) = get_or u.words 0 0

-- a way of keeping that answers alike the whole history, with room for one word
module _ {X : Type 0} (K : Keep X) (size : Kind → ℕ) (Rel : X → Past → Type 0) (alike : Alike K (as_past size) Rel) (x : X) (start : Rel x (past [] [] [])) (space : 1 ≤ size Texture) where
  one_kept : Rel (K.put x (sent 7)) (past ((sent 7).whole ∷ []) [] [])
  one_kept = alike.put-kept x (past [] [] []) (sent 7) start (record { sides = refl; size = refl }) (rw (le-ltb (size Texture) 1 space))

  two-kept : Rel (K.put (K.put x (sent 7)) (sent 8)) (past ((sent 8).whole ∷ (sent 7).whole ∷ []) [] [])
  two-kept = alike.put-kept (K.put x (sent 7)) (past ((sent 7).whole ∷ []) [] []) (sent 8) one_kept (record { sides = refl; size = refl }) (rw (le-ltb (size Texture) 1 space))

  no_words : Blank K (words_on K x [])
  unfolding run
  no_words = record { header_next = refl; none-held = λ k i. ap (λ (l : Look). l k i) (alike.look_same x (past [] [] []) start) ∙ nothing-held k i }

  two_sent : Twice K (words_on K x []).box (sent 7) (sent 8)
  unfolding run
  two_sent = record {
    kind = refl;
    number = refl;
    passing_first = record { sides = refl; size = refl };
    passing_second = record { sides = refl; size = refl };
    room-first = alike.room_same x (past [] [] []) (sent 7) start ∙ rw (le-ltb (size Texture) 1 space);
    room-second = alike.room_same _ _ (sent 8) one_kept ∙ rw (le-ltb (size Texture) 1 space);
  }

  pub first-kept : FirstKept K x → ⊥
  unfolding run
  first-kept h =
      let last : K.look (K.put (K.put x (sent 7)) (sent 8)) Texture 1 ≡ some (sent 8).whole = ap (λ (l : Look). l Texture 1) (alike.look_same _ _ two-kept) in
      let same : some (sent 7).whole ≡ some (sent 8).whole = sym (h [] tt no_words (sent 7) (sent 8) two_sent) ∙ last in
      let z : ◌≡◌ {A = ℕ} 7 8 = ap word_in same in
      omega arith
