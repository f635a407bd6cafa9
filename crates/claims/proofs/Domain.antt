-- The domain of demand 2 is neither empty nor everything: an upload, a clear and a flat triangle are in it exactly if the store has the upload's one word and the triangle's coordinate is from -8192 to 8192. Assumes nothing.
use Prim.Native.Nat.{ℕ, ◌≤◌, ◌<◌}
use Rattle.std.specs.Prelude.{Result, Ok, Err, ⊤}
use Rattle.store.specs.declared.NoRoom.{NoRoom}
use mathlib.Core.Path.{◌≡◌, refl}
use mathlib.Core.Bool.{Bool, true, false, cond}
use mathlib.Core.Option.{none, some}
use mathlib.Core.List.{List, [], ◌∷◌, ◌++◌}
use native.Mathlib.Omega.{arith}
use lib.Dec.{eqb, ltb}
use lib.IntN.{nat_abs}
use mir.Syntax.{w32}
use mir.Val.{to_z}
use borrow.Author.Tests.{eqb-false, ltb-true, ltb-false, lt-ltb, le-ltb}
use Rattle.store.specs.declared.Kind.{Kind}
use Rattle.store.specs.declared.Kind.TheVariants.{Texture}
use Rattle.store.specs.declared.NoRoom.TheVariants.{NoWords}
use Rattle.execute.specs.Control as control
use Rattle.command.specs.Command.{command_of}
use Rattle.execute.specs.Commands.{Load, texture_in, told, texture_verdict, painted_by, clear_painted, flat_painted}
use Rattle.flat.specs.Words.{flat_verdict, in_reach}
use Rattle.run.specs.Framing.{word, header, gather, run}
use Rattle.vpu.specs.Calls.{Small}
use Rattle.claims.specs.Plain.{as_past, plain_start}
use Rattle.claims.specs.Original.{new, refuses, arm, execute, await, push, pushes}
use Rattle.claims.specs.Domain.{AllFine, InDomain, clear, triangle, stream}

-- ---- only there
pub near-only : (size : Kind → ℕ) (x : ℕ) → InDomain size (stream x) → nat_abs (to_z w32 x) ≤ 8192
unfolding AllFine word header gather control.execute
near-only size x d = ((d.1.1.1.1.1.1.1.1.1.1.1.1.1.1.1.1.1.1.1.1.1.0 refl).near refl refl).1.1.0

-- the upload's one word
abbrev one : Load
one = texture_in (7 ∷ 1 ∷ 1 ∷ 0xf0a5_1234 ∷ [])

fits_one : (size : ℕ) → ◌≡◌ {A = Result ⊤ NoRoom} (cond (ltb size 1) (Err NoWords) (Ok _)) (Ok _) → 1 ≤ size
fits_one size e = go (ltb size 1) refl e
  where
    go : (b : Bool) → ltb size 1 ≡ b → ◌≡◌ {A = Result ⊤ NoRoom} (cond b (Err NoWords) (Ok _)) (Ok _) → 1 ≤ size
    go false f e = ltb-false size 1 f
    go true f e = let z : ◌≡◌ {A = ℕ} 0 1 = cc in absurd (omega arith)

pub room-only : (size : Kind → ℕ) (x : ℕ) → InDomain size (stream x) → 1 ≤ size Texture
unfolding AllFine word header gather control.execute told command_of texture_verdict
room-only size x d = fits_one (size Texture) ((d.1.1.1.1.1.0 refl).fits one refl)

-- ---- and there
abbrev pub below : List ℕ → Bool
below [] = true
below (w ∷ ws) = cond (ltb w 4294967296) (below ws) false

pub small_of : (ws : List ℕ) → below ws ≡ true → Small ws
small_of [] e = tt
small_of (w ∷ ws) e = go (ltb w 4294967296) refl e (λ k. small_of ws k)
  where
    go : (b : Bool) → ltb w 4294967296 ≡ b → cond b (below ws) false ≡ true → (below ws ≡ true → Small ws) → (w < 4294967296) × Small ws
    go true f e rest = (ltb-true w 4294967296 f, rest e)
    go false f e rest = let z : ◌≡◌ {A = ℕ} 0 1 = cc in absurd (omega arith)

-- a word after which others are to come
more : {A : Type 0} (n : ℕ) → eqb n 1 ≡ false → n ≡ 1 → A
more n e f = absurd (eqb-false n 1 e f)

lost : {A : Type 0} {l : Load} → none ≡ some l → A
lost e = let z : ◌≡◌ {A = ℕ} 0 1 = cc in absurd (omega arith)

the : (a b : Load) → some a ≡ some b → b ≡ a
the a b e = cc

infixr 2 ◌⨾◌
◌⨾◌ : {A B : Type 0} → A → B → A × B
a ⨾ b = (a, b)

pub in_domain : (size : Kind → ℕ) (x : ℕ) → x < 4294967296 → nat_abs (to_z w32 x) ≤ 8192 → 1 ≤ size Texture → InDomain size (stream x)
unfolding AllFine word header gather control.execute told command_of texture_verdict painted_by clear_painted flat_painted
in_domain size x s h t = (
  small_of (stream x) (rw (lt-ltb x 4294967296 s)),
  more 0 refl ⨾ more 4 refl ⨾ more 3 refl ⨾ more 2 refl ⨾ (λ e. record { near = λ o n. absurd (omega arith); fits = λ l f. rw (the one l f, le-ltb (size Texture) 1 t) })
      ⨾ more 0 refl ⨾ more 3 refl ⨾ more 2 refl ⨾ (λ e. record { near = λ o n. absurd (omega arith); fits = λ l f. lost f })
      ⨾ more 0 refl ⨾ more 11 refl ⨾ more 10 refl ⨾ more 9 refl ⨾ more 8 refl ⨾ more 7 refl ⨾ more 6 refl ⨾ more 5 refl ⨾ more 4 refl ⨾ more 3 refl ⨾ more 2 refl
      ⨾ (λ e. record { near = λ o n. omega arith ⨾ omega arith ⨾ h ⨾ omega arith ⨾ omega arith ⨾ omega arith ⨾ tt; fits = λ l f. lost f }) ⨾ tt,
)

-- 8192 is in it on either side, and 8193 on neither
pub at_8192 : (size : Kind → ℕ) → 1 ≤ size Texture → InDomain size (stream 8192)
at_8192 size t = in_domain size 8192 (omega arith) (omega arith) t

pub at-minus_8192 : (size : Kind → ℕ) → 1 ≤ size Texture → InDomain size (stream 0xffff_e000)
at-minus_8192 size t = in_domain size 0xffff_e000 (omega arith) (omega arith) t

pub not_8193 : (size : Kind → ℕ) → InDomain size (stream 8193) → ⊥
not_8193 size d = let h : 8193 ≤ 8192 = near-only size 8193 d in omega arith

pub not_minus_8193 : (size : Kind → ℕ) → InDomain size (stream 0xffff_dfff) → ⊥
not_minus_8193 size d = let h : 8193 ≤ 8192 = near-only size 0xffff_dfff d in omega arith

-- outside they differ: the original draws it and is content, and the port refuses it
pub beyond : (size : Kind → ℕ) → ((pushes refuses new (clear ++ triangle 8193)).status ≡ 0) × ((run (as_past size) plain_start (clear ++ triangle 8193)).control.notes.status ≡ 8)
unfolding pushes push await execute arm run word header gather control.execute told command_of painted_by clear_painted flat_painted flat_verdict in_reach
beyond size = (refl, refl)
