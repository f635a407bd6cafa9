-- Laws of `specs/Commands.antt` and `specs/Kept.antt`: what each definition is under the tests that lead to a way out, and what a passed check says of the words. Assumes nothing.
use Prim.Native.Nat.{ℕ, ◌+◌, ◌-◌, ◌/◌, ◌%◌, ◌≤◌, ◌<◌}
use mathlib.Core.Path.{◌≡◌, refl, ap, ◌∙◌}
use mathlib.Core.Bool.{Bool, true, false, cond}
use mathlib.Core.List.{List}
use native.Mathlib.Omega.{arith}
use borrow.Author.Tests.{ltb-false, eqb-true, eqb-false, eq-eqb, ne_eqb, lt-ltb, le-ltb, le-leb}
use lib.Dec.{eqb}
use lib.ListN.{length, take, drop, length-drop}
use lib.Seq.{take_all}
use lib.IntN.{ℤ}
use lib.Ieee.{Float}
use Rattle.laws.specs.Cells.{map_at}
use Rattle.screen.specs.Plane.{paint}
use Rattle.screen.specs.Depths.{far_ints, far_floats}
use Rattle.screen.specs.declared.plane.Rgba.{Rgba}
use Rattle.std.specs.Prelude.{Result, Ok, Err, ⊤}
use Rattle.std.specs.Result.{MatchResult, IsErrAnd}
use Rattle.std.proofs.lemmas.Result.{err_from_is_err_and}
use Rattle.verdict.specs.declared.Reason.{Reason}
use Rattle.verdict.specs.declared.Reason.TheVariants.{WrongLength, OutOfRange}
use Rattle.verdict.specs.Verdict.{Verdict, refused, done}
use Rattle.verdict.specs.declared.Refused.{Refused}
use Rattle.payload.specs.Words.{word_at, at_most}
use Rattle.settings.specs.declared.Settings.{Settings}
use Rattle.store.specs.declared.Kind.{Kind}
use Rattle.store.specs.declared.Kind.TheVariants.{Texture, Model}
use Rattle.store.specs.declared.Slot.{Slot}
use Rattle.store.specs.declared.NoRoom.{NoRoom}
use Rattle.store.specs.Uploads.{Whole}
use Rattle.store.specs.Slots.{area_of, sides_ok, is_fits, answered, Uploaded}
use Rattle.state.specs.State.{most_payload}
use Rattle.command.specs.declared.Setting.{Setting}
use Rattle.execute.specs.Paints.{picture, paint_on, paints_on}
use Rattle.command.specs.Command.{setting_words}
use Rattle.execute.specs.Commands.{Load, wrong_length, of_length, set_by, settings_after, texture_verdict, count_verdict, rgba_of, clear_paints, clear_painted}
use Rattle.execute.specs.Control.{no_room, room_verdict}
use Rattle.execute.specs.Kept.{Shelf, shelf, shelved, shelved_by, room_on, put_on, kept_on, loaded_on}

-- a refusal, by what it says
pub because-is : {e f : Refused} → e ≡ f → ◌≡◌ {A = Verdict} (Err e) (Err f)
because-is h = ap (λ (e : Refused). Err e) h

-- ---- those that set
module _ (s : Settings) (x : Setting) (p : List ℕ) where
  set-whole : length p ≡ setting_words x → settings_after s x p ≡ set_by s x p
  unfolding settings_after
  set-whole n = rw (eq-eqb (length p) (setting_words x) n)

  -- if x is y
  pub set_as : length p ≡ setting_words x → (y : Setting) → x ≡ y → settings_after s x p ≡ set_by s y p
  set_as n y e = set-whole n ∙ ap (λ (z : Setting). set_by s z p) e

  pub set_wrong : (length p ≡ setting_words x → ⊥) → settings_after s x p ≡ refused WrongLength 0
  unfolding settings_after
  set_wrong n = rw (ne_eqb (length p) (setting_words x) n)

-- ---- 17: each refusal, and what is left behind them
pub texture_short : (p : List ℕ) → length p < 3 → texture_verdict p ≡ wrong_length
unfolding texture_verdict
texture_short p n = rw (lt-ltb (length p) 3 n)

module _ (p : List ℕ) (n : 3 ≤ length p) where
  pub width-zero : word_at p 1 ≡ 0 → texture_verdict p ≡ refused OutOfRange 1
  unfolding texture_verdict
  width-zero a = rw (le-ltb (length p) 3 n, eq-eqb (word_at p 1) 0 a)

  module _ (a : 0 < word_at p 1) where
    some_width : eqb (word_at p 1) 0 ≡ false
    some_width = ne_eqb (word_at p 1) 0 (λ e. omega arith)

    pub height-zero : word_at p 2 ≡ 0 → texture_verdict p ≡ refused OutOfRange 2
    unfolding texture_verdict
    height-zero b = rw (le-ltb (length p) 3 n, some_width, eq-eqb (word_at p 2) 0 b)

    module _ (b : 0 < word_at p 2) where
      some_height : eqb (word_at p 2) 0 ≡ false
      some_height = ne_eqb (word_at p 2) 0 (λ e. omega arith)

      pub width_large : 1024 < word_at p 1 → texture_verdict p ≡ refused OutOfRange 1
      unfolding texture_verdict
      width_large d = rw (le-ltb (length p) 3 n, some_width, some_height, lt-ltb 1024 (word_at p 1) d)

      module _ (d : word_at p 1 ≤ 1024) where
        pub height_large : 1024 < word_at p 2 → texture_verdict p ≡ refused OutOfRange 2
        unfolding texture_verdict
        height_large e = rw (le-ltb (length p) 3 n, some_width, some_height, le-ltb 1024 (word_at p 1) d, lt-ltb 1024 (word_at p 2) e)

        module _ (e : word_at p 2 ≤ 1024) where
          sides_left : texture_verdict p ≡ of_length (3 + area_of Texture (word_at p 1) (word_at p 2)) p done wrong_length
          unfolding texture_verdict
          sides_left = rw (le-ltb (length p) 3 n, some_width, some_height, le-ltb 1024 (word_at p 1) d, le-ltb 1024 (word_at p 2) e)

          pub texture_done : length p ≡ 3 + area_of Texture (word_at p 1) (word_at p 2) → texture_verdict p ≡ done
          texture_done l = sides_left ∙ rw (eq-eqb (length p) (3 + area_of Texture (word_at p 1) (word_at p 2)) l)

          pub texture_wrong : (length p ≡ 3 + area_of Texture (word_at p 1) (word_at p 2) → ⊥) → texture_verdict p ≡ wrong_length
          texture_wrong l = sides_left ∙ rw (ne_eqb (length p) (3 + area_of Texture (word_at p 1) (word_at p 2)) l)

-- ---- 1A
pub count_short : (p : List ℕ) → length p < 2 → count_verdict p ≡ wrong_length
unfolding count_verdict
count_short p n = rw (lt-ltb (length p) 2 n)

module _ (p : List ℕ) (n : 2 ≤ length p) where
  pub count_zero : word_at p 1 ≡ 0 → count_verdict p ≡ refused OutOfRange 1
  unfolding count_verdict
  count_zero a = rw (le-ltb (length p) 2 n, eq-eqb (word_at p 1) 0 a)

  module _ (a : 0 < word_at p 1) where
    count_left : count_verdict p ≡ of_length (2 + area_of Model (word_at p 1) 0) p done wrong_length
    unfolding count_verdict
    count_left = rw (le-ltb (length p) 2 n, ne_eqb (word_at p 1) 0 (λ e. omega arith))

    pub count_done : length p ≡ 2 + area_of Model (word_at p 1) 0 → count_verdict p ≡ done
    count_done l = count_left ∙ rw (eq-eqb (length p) (2 + area_of Model (word_at p 1) 0) l)

    pub count_wrong : (length p ≡ 2 + area_of Model (word_at p 1) 0 → ⊥) → count_verdict p ≡ wrong_length
    count_wrong l = count_left ∙ rw (ne_eqb (length p) (2 + area_of Model (word_at p 1) 0) l)

-- ---- what a passed check says
pub texture_sides : (w h : ℕ) → 0 < w → w ≤ 1024 → 0 < h → h ≤ 1024 → sides_ok Texture w h ≡ true
texture_sides w h a b c d = rw (lt-ltb 0 w a, le-leb w 1024 b, lt-ltb 0 h c, le-leb h 1024 d)

pub model_sides : (n : ℕ) → 0 < n → n ≤ 18724 → sides_ok Model n 0 ≡ true
model_sides n a b = rw (lt-ltb 0 n a, le-leb n 18724 b)

-- a refusal that was passed by, and an exact length that was met
past : (t : Bool) (r : Reason) (i : ℕ) (v : Verdict) → cond t (refused r i) v ≡ done → (t ≡ false) × (v ≡ done)
past true r i v e = (cc, cc)
past false r i v e = (refl, e)

met : (n : ℕ) (p : List ℕ) → of_length n p done wrong_length ≡ done → length p ≡ n
met n p e = eqb-true (length p) n (go (eqb (length p) n) e)
  where
    go : (t : Bool) → cond t done wrong_length ≡ done → t ≡ true
    go true e = refl
    go false e = cc

positive : (n : ℕ) → (n ≡ 0 → ⊥) → 0 < n
positive n h = omega arith

-- an upload's words behind its m words in front: sides in range, and exactly the words that they ask
pub record Passes (k : Kind) (w h m : ℕ) (p : List ℕ) : Type 0 where
  pub front : m ≤ length p
  pub sides : sides_ok k w h ≡ true
  pub size : length (drop m p) ≡ area_of k w h

pub texture_passes : (p : List ℕ) → texture_verdict p ≡ done → Passes Texture (word_at p 1) (word_at p 2) 3 p
unfolding texture_verdict
texture_passes p e =
    let one = past _ _ _ _ e in
    let two = past _ _ _ _ one.1 in
    let three = past _ _ _ _ two.1 in
    let four = past _ _ _ _ three.1 in
    let five = past _ _ _ _ four.1 in
    let long : length p ≡ 3 + area_of Texture (word_at p 1) (word_at p 2) = met _ p five.1 in
    record {
      front = ltb-false (length p) 3 one.0;
      sides = texture_sides (word_at p 1) (word_at p 2) (positive (word_at p 1) (eqb-false (word_at p 1) 0 two.0)) (ltb-false 1024 (word_at p 1) four.0)
          (positive (word_at p 2) (eqb-false (word_at p 2) 0 three.0)) (ltb-false 1024 (word_at p 2) five.0);
      size = omega (arith, length-drop 3 p);
    }

pub count_passes : (p : List ℕ) → length p ≤ most_payload → count_verdict p ≡ done → Passes Model (word_at p 1) 0 2 p
unfolding count_verdict
count_passes p most e =
    let one = past _ _ _ _ e in
    let two = past _ _ _ _ one.1 in
    let long : length p ≡ 2 + area_of Model (word_at p 1) 0 = met _ p two.1 in
    record {
      front = ltb-false (length p) 2 one.0;
      sides = model_sides (word_at p 1) (positive (word_at p 1) (eqb-false (word_at p 1) 0 two.0)) (omega arith);
      size = omega (arith, length-drop 2 p);
    }

-- the words behind the first n, as a slice has them
pub rest_is : (p : List ℕ) (n : ℕ) → take (length p - n) (drop n p) ≡ drop n p
rest_is p n = take_all (length p - n) (drop n p) (omega (arith, length-drop n p))

pub rest_size : {k : Kind} {w h m : ℕ} {p : List ℕ} → Passes k w h m p → length (take (length p - m) (drop m p)) ≡ area_of k w h
rest_size {m = m} {p = p} e = ap length (rest_is p m) ∙ e.size

-- ---- an upload that is kept
-- what a store answers, as a command is refused for it
abbrev pub refusing : {A : Type 0} → Result A NoRoom → Result A Refused
refusing (Ok a) = Ok a
refusing (Err why) = Err (no_room why)

pub refused-for : {A : Type 0} (r : Result A NoRoom) (v : Result A Refused) → MatchResult r (λ a. v ≡ Ok a) (λ why. IsErrAnd v (λ e. e ≡ no_room why)) → v ≡ refusing r
refused-for (Ok a) v h = h
refused-for (Err why) v h =
    let e = err_from_is_err_and v h in
    rw (e.1, e.2)

module _ (k : Kind) (ss : List Slot) (store : List ℕ) (u : Whole) where
  pub kept-is : {r : Result (List Slot) NoRoom} {after : List ℕ} → Uploaded k ss store u r after → {v : Result (List Slot) Refused} → v ≡ refusing r → shelved_by ss v after ≡ kept_on k (shelf ss store) u
  unfolding kept_on
  kept-is h e = rw (e, h.answer, h.words) (by_room (room_on k (shelf ss store) u))
    where
      by_room : (r : Result ⊤ NoRoom)
          → shelved_by ss (refusing (answered r (put_on k (shelf ss store) u).slots)) (cond (is_fits r) (put_on k (shelf ss store) u).words store)
          ≡ shelved (room_verdict r) (cond (is_fits r) (put_on k (shelf ss store) u) (shelf ss store))
      by_room (Ok u) = refl
      by_room (Err why) = refl

module _ (v : Verdict) (l : Load) (s : Shelf) where
  pub loaded_done : v ≡ done → loaded_on v l s ≡ kept_on l.kind s l.whole
  unfolding loaded_on
  loaded_done e = rw e

  pub loaded_refused : {e : Refused} → v ≡ Err e → shelved_by s.slots (Err e) s.words ≡ loaded_on v l s
  unfolding loaded_on
  loaded_refused e = rw e

-- ---- 04: by its two flags
pub clear-verdict : (p : List ℕ) → (clear_painted p).verdict ≡ at_most p 0 3
unfolding clear_painted
clear-verdict p = refl

module _ (p : List ℕ) (P : List ℕ) (D : List ℤ) (F : List Float) where
  module _ (one : word_at p 0 % 2 ≡ 1) {c : Rgba} (is : c ≡ rgba_of (word_at p 1)) {P' : List ℕ} (fills : P' ≡ map_at (paint c) P) where
    pub clear_both : word_at p 0 / 2 % 2 ≡ 1 → {D' : List ℤ} {F' : List Float} → D' ≡ far_ints (length D) → F' ≡ far_floats (length F)
        → picture P' D' F' ≡ paints_on (clear_painted p).paints (picture P D F)
    unfolding clear_painted clear_paints paints_on paint_on
    clear_both two d f = rw (eq-eqb (word_at p 0 % 2) 1 one, eq-eqb (word_at p 0 / 2 % 2) 1 two, fills, is, d, f)

    pub clear-plane : (word_at p 0 / 2 % 2 ≡ 1 → ⊥) → picture P' D F ≡ paints_on (clear_painted p).paints (picture P D F)
    unfolding clear_painted clear_paints paints_on paint_on
    clear-plane two = rw (eq-eqb (word_at p 0 % 2) 1 one, ne_eqb (word_at p 0 / 2 % 2) 1 two, fills, is)

  module _ (one : word_at p 0 % 2 ≡ 1 → ⊥) where
    pub clear-depths : word_at p 0 / 2 % 2 ≡ 1 → {D' : List ℤ} {F' : List Float} → D' ≡ far_ints (length D) → F' ≡ far_floats (length F)
        → picture P D' F' ≡ paints_on (clear_painted p).paints (picture P D F)
    unfolding clear_painted clear_paints paints_on paint_on
    clear-depths two d f = rw (ne_eqb (word_at p 0 % 2) 1 one, eq-eqb (word_at p 0 / 2 % 2) 1 two, d, f)

    pub clear-nothing : (word_at p 0 / 2 % 2 ≡ 1 → ⊥) → picture P D F ≡ paints_on (clear_painted p).paints (picture P D F)
    unfolding clear_painted clear_paints paints_on paint_on
    clear-nothing two = rw (ne_eqb (word_at p 0 % 2) 1 one, ne_eqb (word_at p 0 / 2 % 2) 1 two)
