-- The laws of `map_at`. Assumes nothing.
--     length-map_at, get_or-map_at    the length, and the element at k
--     map_ext, map-none               two functions that agree on the list; one that changes nothing there
--     map_twice                       one pass after the other
--     range_none, range_all           an empty range, and a whole one
--     range_join                      a range after the one below it
--     range_set                       a store at the end of a range: a turn of a loop
use mathlib.Core.Path.{◌≡◌, refl, sym, ap, ◌∙◌}
use mathlib.Core.Bool.{Bool, true, false, and-false}
use mathlib.Core.List.{List, [], ◌∷◌}
use Prim.Native.Nat.{ℕ, zero, suc, ◌+◌, ◌<◌, ◌≤◌}
use native.Mathlib.Nat.{add-zero, zero-add, add-suc, suc-add, le_of_suc-le-suc, not-suc-le-zero}
use native.Mathlib.Decide.{dec_lt, ℕ_discrete}
use native.Mathlib.Omega.{arith}
use borrow.Author.Tests.{lt-ltb, le-ltb, le-leb, lt-leb}
use lib.Dec.{leb}
use lib.ListN.{length, get_or, set, length-set}
use lib.Seq.{ext_get_or, get_or-set_same, get_or-set_other}
use Rattle.laws.specs.Cells.{between, map_from, map_at, on, map_range}

-- ---- ranges
pub in_range : (lo hi k : ℕ) → lo ≤ k → k < hi → between lo hi k ≡ true
unfolding between
in_range lo hi k p q = simp (le-leb lo k p, lt-ltb k hi q)

pub under : (lo hi k : ℕ) → k < lo → between lo hi k ≡ false
unfolding between
under lo hi k p = simp (lt-leb lo k p)

pub over : (lo hi k : ℕ) → hi ≤ k → between lo hi k ≡ false
unfolding between
over lo hi k p = simp (le-ltb k hi p) (and-false (leb lo k))

module _ {A : Type 0} where
  length_from : (f : ℕ → A → A) (i : ℕ) (xs : List A) → length (map_from f i xs) ≡ length xs
  length_from f i [] = refl
  length_from f i (x ∷ xs) = ap suc (length_from f (suc i) xs)

  get_or-from : (f : ℕ → A → A) (i : ℕ) (xs : List A) (k : ℕ) (d : A) → k < length xs → get_or (map_from f i xs) k d ≡ f (i + k) (get_or xs k d)
  get_or-from f i [] k d h = absurd (not-suc-le-zero h)
  get_or-from f i (x ∷ xs) zero d h = ap (λ (m : ℕ). f m x) (sym (add-zero i))
  get_or-from f i (x ∷ xs) (suc k) d h =
      get_or-from f (suc i) xs k d (le_of_suc-le-suc h) ∙ ap (λ (m : ℕ). f m (get_or xs k d)) (suc-add i k ∙ sym (add-suc i k))

  pub length-map_at : (f : ℕ → A → A) (xs : List A) → length (map_at f xs) ≡ length xs
  unfolding map_at
  length-map_at f xs = length_from f 0 xs

  pub get_or-map_at : (f : ℕ → A → A) (xs : List A) (k : ℕ) (d : A) → k < length xs → get_or (map_at f xs) k d ≡ f k (get_or xs k d)
  unfolding map_at
  get_or-map_at f xs k d h = get_or-from f 0 xs k d h ∙ ap (λ (m : ℕ). f m (get_or xs k d)) (zero-add k)

  -- a list is a pass over another if each element is
  pub is-map : (d : A) (f : ℕ → A → A) (ys xs : List A) → length ys ≡ length xs
      → ((k : ℕ) → k < length xs → get_or ys k d ≡ f k (get_or xs k d)) → ys ≡ map_at f xs
  is-map d f ys xs e h =
      ext_get_or d ys (map_at f xs) (e ∙ sym (length-map_at f xs))
      (λ k l. let l' : k < length xs = omega arith in h k l' ∙ sym (get_or-map_at f xs k d l'))

  pub map_ext : (d : A) (f g : ℕ → A → A) (xs : List A) → ((k : ℕ) → k < length xs → f k (get_or xs k d) ≡ g k (get_or xs k d)) → map_at f xs ≡ map_at g xs
  map_ext d f g xs h = is-map d g (map_at f xs) xs (length-map_at f xs) (λ k l. get_or-map_at f xs k d l ∙ h k l)

  pub map-none : (d : A) (f : ℕ → A → A) (xs : List A) → ((k : ℕ) → k < length xs → f k (get_or xs k d) ≡ get_or xs k d) → xs ≡ map_at f xs
  map-none d f xs h = is-map d f xs xs refl (λ k l. sym (h k l))

  pub map_twice : (d : A) (f g h : ℕ → A → A) (xs : List A) → ((k : ℕ) → k < length xs → g k (f k (get_or xs k d)) ≡ h k (get_or xs k d)) → map_at g (map_at f xs) ≡ map_at h xs
  map_twice d f g h xs same =
      is-map d h (map_at g (map_at f xs)) xs (length-map_at g (map_at f xs) ∙ length-map_at f xs)
      (λ k l. let l' : k < length (map_at f xs) = omega (arith, length-map_at f xs) in
      get_or-map_at g (map_at f xs) k d l' ∙ ap (g k) (get_or-map_at f xs k d l) ∙ same k l)

  -- ---- a function under a test
  pub on_yes : (m : ℕ → Bool) (f : ℕ → A → A) (k : ℕ) (x : A) → m k ≡ true → on m f k x ≡ f k x
  unfolding on
  on_yes m f k x e = simp e

  pub on_no : (m : ℕ → Bool) (f : ℕ → A → A) (k : ℕ) (x : A) → m k ≡ false → on m f k x ≡ x
  unfolding on
  on_no m f k x e = simp e

  -- ---- ranges
  pub range_none : (d : A) (f : ℕ → A → A) (lo hi : ℕ) (xs : List A) → hi ≤ lo → xs ≡ map_range f lo hi xs
  range_none d f lo hi xs h = map-none d (on (between lo hi) f) xs (λ k l. on_no (between lo hi) f k (get_or xs k d) (none k (dec_lt k lo)))
    where
      none : (k : ℕ) → Dec (k < lo) → between lo hi k ≡ false
      none k (yes p) = under lo hi k p
      none k (no p) = over lo hi k (omega arith)

  pub range_all : (d : A) (f : ℕ → A → A) (hi : ℕ) (xs : List A) → length xs ≤ hi → map_range f 0 hi xs ≡ map_at f xs
  range_all d f hi xs h = map_ext d (on (between 0 hi) f) f xs (λ k l. on_yes (between 0 hi) f k (get_or xs k d) (in_range 0 hi k (omega arith) (omega arith)))

  pub range_join : (d : A) (f : ℕ → A → A) (lo mid hi : ℕ) (xs : List A) → lo ≤ mid → mid ≤ hi → map_range f mid hi (map_range f lo mid xs) ≡ map_range f lo hi xs
  unfolding on
  range_join d f lo mid hi xs p q =
      map_twice d (on (between lo mid) f) (on (between mid hi) f) (on (between lo hi) f) xs
      (λ k l. at k (get_or xs k d) (dec_lt k lo) (dec_lt k mid) (dec_lt k hi))
    where
      at : (k : ℕ) (x : A) → Dec (k < lo) → Dec (k < mid) → Dec (k < hi) → on (between mid hi) f k (on (between lo mid) f k x) ≡ on (between lo hi) f k x
      at k x (yes a) b c = simp (under lo mid k a, under mid hi k (omega arith), under lo hi k a)
      at k x (no a) (yes b) c = simp (in_range lo mid k (omega arith) b, under mid hi k b, in_range lo hi k (omega arith) (omega arith))
      at k x (no a) (no b) (yes c) = simp (over lo mid k (omega arith), in_range mid hi k (omega arith) c, in_range lo hi k (omega arith) c)
      at k x (no a) (no b) (no c) = simp (over lo mid k (omega arith), over mid hi k (omega arith), over lo hi k (omega arith))

  pub set_range : (d : A) (f : ℕ → A → A) (i : ℕ) (v : A) (xs : List A) → i < length xs → f i (get_or xs i d) ≡ v → set xs i v ≡ map_range f i (i + 1) xs
  set_range d f i v xs h e =
      is-map d (on (between i (i + 1)) f) (set xs i v) xs (length-set xs i v) (λ k l. at k (ℕ_discrete k i))
    where
      at : (k : ℕ) → Dec (k ≡ i) → get_or (set xs i v) k d ≡ on (between i (i + 1)) f k (get_or xs k d)
      at k (yes p) =
          rw p (get_or-set_same xs i v d h ∙ sym e ∙ sym (on_yes (between i (i + 1)) f i (get_or xs i d) (in_range i (i + 1) i (omega arith) (omega arith))))
      at k (no p) = get_or-set_other xs i k v d p ∙ sym (on_no (between i (i + 1)) f k (get_or xs k d) (off (dec_lt k i)))
        where
          off : Dec (k < i) → between i (i + 1) k ≡ false
          off (yes q) = under i (i + 1) k q
          off (no q) = over i (i + 1) k (omega arith)

  -- a store at the end of a range that is done: a turn of a loop
  pub range_set : (d : A) (f : ℕ → A → A) (lo i hi : ℕ) (v : A) (xs : List A) → lo ≤ i → i < length xs → hi ≡ i + 1 → f i (get_or xs i d) ≡ v
      → set (map_range f lo i xs) i v ≡ map_range f lo hi xs
  range_set d f lo i hi v xs p q eh e =
      set_range d f i v (map_range f lo i xs) (omega (arith, length-map_at (on (between lo i) f) xs)) (ap (f i) same ∙ e)
      ∙ range_join d f lo i (i + 1) xs p (omega arith) ∙ ap (λ (h : ℕ). map_range f lo h xs) (sym eh)
    where
      same : get_or (map_range f lo i xs) i d ≡ get_or xs i d
      same = get_or-map_at (on (between lo i) f) xs i d q ∙ on_no (between lo i) f i (get_or xs i d) (over lo i i (omega arith))

  pub set-four : (d : A) (f : ℕ → A → A) (i : ℕ) (v₀ v₁ v₂ v₃ : A) (xs : List A) → i + 4 ≤ length xs
      → f i (get_or xs i d) ≡ v₀ → f (i + 1) (get_or xs (i + 1) d) ≡ v₁ → f (i + 2) (get_or xs (i + 2) d) ≡ v₂ → f (i + 3) (get_or xs (i + 3) d) ≡ v₃
      → set (set (set (set xs i v₀) (i + 1) v₁) (i + 2) v₂) (i + 3) v₃ ≡ map_range f i (i + 4) xs
  set-four d f i v₀ v₁ v₂ v₃ xs h e₀ e₁ e₂ e₃ =
      ap (λ (l : List A). set (set (set l (i + 1) v₁) (i + 2) v₂) (i + 3) v₃) (set_range d f i v₀ xs (omega arith) e₀)
      ∙ ap (λ (l : List A). set (set l (i + 2) v₂) (i + 3) v₃) (range_set d f i (i + 1) (i + 2) v₁ xs (omega arith) (omega arith) (omega arith) e₁)
      ∙ ap (λ (l : List A). set l (i + 3) v₃) (range_set d f i (i + 2) (i + 3) v₂ xs (omega arith) (omega arith) (omega arith) e₂)
      ∙ range_set d f i (i + 3) (i + 4) v₃ xs (omega arith) (omega arith) (omega arith) e₃

  -- a turn of a loop that calls a function for the next range: ys is the buffer before the call, zs after it
  pub range_next : (d : A) (f : ℕ → A → A) (lo mid mid' hi' hi : ℕ) (xs ys zs : List A) → ys ≡ map_range f lo mid xs → zs ≡ map_range f mid' hi' ys
      → mid' ≡ mid → hi' ≡ hi → lo ≤ mid → mid ≤ hi → zs ≡ map_range f lo hi xs
  range_next d f lo mid mid' hi' hi xs ys zs ey ez em eh p q = rw (ez, ey, em, eh) (range_join d f lo mid hi xs p q)

  -- four calls, each for the range after the last one's
  pub range_four : (d : A) (f : ℕ → A → A) (lo s₀ e₀ s₁ e₁ s₂ e₂ s₃ e₃ hi : ℕ) (xs ys₀ ys₁ ys₂ ys₃ : List A) → ys₀ ≡ map_range f s₀ e₀ xs → ys₁ ≡ map_range f s₁ e₁ ys₀
      → ys₂ ≡ map_range f s₂ e₂ ys₁ → ys₃ ≡ map_range f s₃ e₃ ys₂ → s₁ ≡ e₀ → s₂ ≡ e₁ → s₃ ≡ e₂ → s₀ ≤ e₀ → e₀ ≤ e₁ → e₁ ≤ e₂ → e₂ ≤ e₃ → s₀ ≡ lo → e₃ ≡ hi
      → ys₃ ≡ map_range f lo hi xs
  range_four d f lo s₀ e₀ s₁ e₁ s₂ e₂ s₃ e₃ hi xs ys₀ ys₁ ys₂ ys₃ r₀ r₁ r₂ r₃ j₁ j₂ j₃ p₀ p₁ p₂ p₃ el eh =
      range_next d f s₀ e₂ s₃ e₃ hi xs ys₂ ys₃
      (range_next d f s₀ e₁ s₂ e₂ e₂ xs ys₁ ys₂ (range_next d f s₀ e₀ s₁ e₁ e₁ xs ys₀ ys₁ r₀ r₁ j₁ refl p₀ p₁) r₂ j₂ refl (omega arith) p₂)
      r₃ j₃ eh (omega arith) (omega arith)
      ∙ ap (λ (l : ℕ). map_range f l hi xs) el

  -- where a loop ends
  pub range_end : (f : ℕ → A → A) (lo hi hi' : ℕ) (xs ys : List A) → ys ≡ map_range f lo hi xs → hi ≡ hi' → ys ≡ map_range f lo hi' xs
  range_end f lo hi hi' xs ys e h = e ∙ ap (λ (k : ℕ). map_range f lo k xs) h

  -- two functions that agree on a range; one that changes nothing there
  range_case : (d : A) (f : ℕ → A → A) (lo hi k : ℕ) (x y : A) → (lo ≤ k → k < hi → f k x ≡ y) → ((between lo hi k ≡ false) → x ≡ y) → on (between lo hi) f k x ≡ y
  range_case d f lo hi k x y p q = go (dec_lt k lo) (dec_lt k hi)
    where
      go : Dec (k < lo) → Dec (k < hi) → on (between lo hi) f k x ≡ y
      go (yes a) b = on_no (between lo hi) f k x (under lo hi k a) ∙ q (under lo hi k a)
      go (no a) (yes b) = on_yes (between lo hi) f k x (in_range lo hi k (omega arith) b) ∙ p (omega arith) b
      go (no a) (no b) = on_no (between lo hi) f k x (over lo hi k (omega arith)) ∙ q (over lo hi k (omega arith))

  pub range_skip : (d : A) (f : ℕ → A → A) (lo hi : ℕ) (xs : List A)
      → ((k : ℕ) → lo ≤ k → k < hi → f k (get_or xs k d) ≡ get_or xs k d) → xs ≡ map_range f lo hi xs
  range_skip d f lo hi xs h =
      map-none d (on (between lo hi) f) xs
      (λ k l. range_case d f lo hi k (get_or xs k d) (get_or xs k d) (h k) (λ _. refl))

  pub range_swap : (d : A) (f g : ℕ → A → A) (lo hi : ℕ) (xs : List A)
      → ((k : ℕ) → lo ≤ k → k < hi → f k (get_or xs k d) ≡ g k (get_or xs k d)) → map_range f lo hi xs ≡ map_range g lo hi xs
  range_swap d f g lo hi xs h =
      map_ext d (on (between lo hi) f) (on (between lo hi) g) xs
      (λ k l. range_case d f lo hi k (get_or xs k d) (on (between lo hi) g k (get_or xs k d))
      (λ p q. h k p q ∙ sym (on_yes (between lo hi) g k (get_or xs k d) (in_range lo hi k p q)))
      (λ e. sym (on_no (between lo hi) g k (get_or xs k d) e)))

  -- below a range, in it and beyond it
  pub get_or-under : (f : ℕ → A → A) (lo hi : ℕ) (xs : List A) (k : ℕ) (d : A) → k < length xs → k < lo → get_or (map_range f lo hi xs) k d ≡ get_or xs k d
  get_or-under f lo hi xs k d l h = get_or-map_at (on (between lo hi) f) xs k d l ∙ on_no (between lo hi) f k (get_or xs k d) (under lo hi k h)

  pub get_or_in : (f : ℕ → A → A) (lo hi : ℕ) (xs : List A) (k : ℕ) (d : A) → k < length xs → lo ≤ k → k < hi → get_or (map_range f lo hi xs) k d ≡ f k (get_or xs k d)
  get_or_in f lo hi xs k d l p q = get_or-map_at (on (between lo hi) f) xs k d l ∙ on_yes (between lo hi) f k (get_or xs k d) (in_range lo hi k p q)

  pub get_d_over : (f : ℕ → A → A) (lo hi : ℕ) (xs : List A) (k : ℕ) (d : A) → k < length xs → hi ≤ k → get_or (map_range f lo hi xs) k d ≡ get_or xs k d
  get_d_over f lo hi xs k d l h = get_or-map_at (on (between lo hi) f) xs k d l ∙ on_no (between lo hi) f k (get_or xs k d) (over lo hi k h)

  -- a turn of a loop that stores at i what it made of the element there: ys is the buffer before the store
  pub range_store : (d : A) (f : ℕ → A → A) (lo i hi : ℕ) (v : A) (xs ys : List A) → ys ≡ map_range f lo i xs → lo ≤ i → i < length xs → hi ≡ i + 1
      → f i (get_or ys i d) ≡ v → set ys i v ≡ map_range f lo hi xs
  range_store d f lo i hi v xs ys e p q eh h =
      ap (λ (l : List A). set l i v) e
      ∙ range_set d f lo i hi v xs p q eh (ap (f i) (sym (ap (λ (l : List A). get_or l i d) e ∙ get_d_over f lo i xs i d q (omega arith))) ∙ h)
