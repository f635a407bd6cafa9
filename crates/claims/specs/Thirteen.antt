-- The thirteen cases (section 9 of docs/RULES.md) as one type: a field for each, about the definitions. `proofs/Table.antt` proves it. Definitions only.
use Rattle.std.specs.Prelude.{ℕ, zero, suc, ◌+◌, ◌*◌, ◌≤◌, ◌≡◌, Bool, cond, not, ◌&&◌, List, [], ◌∷◌, eqb, ℤ, pos, negsuc, Float, length, get_or, set}
use Rattle.std.proofs.Math.Option.{some}
use Rattle.std.specs.Int.Bits.{bit_or}
use Rattle.std.specs.Float.{binary32}
use Rattle.std.specs.Float.Ieee.{of_bits}
use Rattle.laws.specs.Cells.{map_at}
use Rattle.ieee.specs.Root.{root}
use Rattle.screen.specs.Dither.{threshold_at, dither_of}
use Rattle.screen.specs.Plane.{Answered, width, paint, pixel_of}
use Rattle.screen.specs.Draw.{pixels}
use Rattle.screen.specs.Depths.{far_ints, far_floats}
use Rattle.flat.specs.Words.{tri_of}
use Rattle.face.specs.declared.Corners.{Corners}
use Rattle.raster.specs.Ink.{texel_of}
use Rattle.store.specs.declared.Kind.TheVariants.{Texture}
use Rattle.store.specs.Slots.{whole_of, view}
use Rattle.execute.specs.Paints.{picture}
use Rattle.execute.specs.Commands.{rgba_of}
use Rattle.execute.specs.Kept.{Machine, as_box}
use Rattle.vpu.specs.Calls.{reset}
use Rattle.claims.specs.Plain.{plain_start}
use Rattle.claims.specs.Runs.{feed_on}

-- ---- words fed, and what holds then
-- after a reset answered 0, whatever was lent, with a texture store of a length that R holds of: the feed is answered 0, and Q holds of the machine after it
pub record InStore (R : ℕ → Type 0) (ws : List ℕ) (Q : Machine → Type 0) : Type 0 where
  pub holds : (P : List ℕ) (D : List ℤ) (F : List Float) (C T M : List ℕ) → (reset P D F C T M).answer ≡ 0 → R (length T)
      → ((feed_on (reset P D F C T M).machine ws).answer ≡ 0) × Q (feed_on (reset P D F C T M).machine ws).machine

-- after a reset, with stores of any lengths
abbrev pub AfterReset : List ℕ → (Machine → Type 0) → Type 0
AfterReset = InStore (λ n. Unit {0})

-- at any time: to any state and memory that a feed takes, with no command begun. Q holds of the machine before and after it
pub record AnyTime (ws : List ℕ) (Q : Machine → Machine → Type 0) : Type 0 where
  pub holds : (m : Machine) → (feed_on m []).answer ≡ 0 → m.control.wanted ≡ 0 → ((feed_on m ws).answer ≡ 0) × Q m (feed_on m ws).machine

-- ---- what is read of a machine
abbrev pub status_of : Machine → ℕ
status_of m = m.control.notes.status

-- the next word is a header: no command is begun
pub record HeaderNext (m : Machine) : Type 0 where
  pub opcode : m.control.opcode ≡ 0
  pub gathered : m.control.box.gathered ≡ 0
  pub wanted : m.control.wanted ≡ 0

-- `pixel`, and its answer if that is a colour
abbrev pub pixel_in : Machine → ℕ → ℕ → Answered
pixel_in m x y = pixel_of m.picture.plane x y

abbrev pub colour : ℕ → ℕ → ℕ → ℕ → Answered
colour r g b a = record { number = 0; bytes = r ∷ g ∷ b ∷ a ∷ [] }

-- the integer depth at (x, y)
abbrev pub depth_in : Machine → ℕ → ℕ → ℤ
depth_in m x y = get_or m.picture.depth (y * width + x) (pos 0)

-- how many of the first n pass a test
unfoldable pub count_of : (ℕ → Bool) → ℕ → ℕ
count_of f zero = 0
count_of f (suc k) = cond (f k) 1 0 + count_of f k

-- pixel k of the plane is not as a reset leaves it, four zeros
unfoldable pub drawn : List ℕ → ℕ → Bool
drawn plane k = not (eqb (get_or plane (k * 4 + 3) 0) 0 && (eqb (get_or plane (k * 4 + 2) 0) 0 && (eqb (get_or plane (k * 4 + 1) 0) 0 && eqb (get_or plane (k * 4) 0) 0)))

-- ---- the commands that are sent
-- 04: flags, RGBA, unused
abbrev pub clear : ℕ → ℕ → ℕ → List ℕ
clear flags rgba unused = 0x0400_0003 ∷ flags ∷ rgba ∷ unused ∷ []

-- 12 on (0,0), (4,0), (0,4), white at full shade, with these depths
abbrev pub flat : ℕ → ℕ → ℕ → List ℕ
flat z0 z1 z2 = 0x1200_000b ∷ 0 ∷ 0 ∷ z0 ∷ 4 ∷ 0 ∷ z1 ∷ 0 ∷ 4 ∷ z2 ∷ 0xff_ffff ∷ 255 ∷ []

-- 12 with every coordinate 8192 or -8192, white at full shade: on (8192,-8192), (8192,8192), (-8192,8192), so that the screen is inside
abbrev pub utmost : List ℕ
utmost = 8192 ∷ 4294959104 ∷ 0 ∷ 8192 ∷ 8192 ∷ 2147483648 ∷ 4294959104 ∷ 8192 ∷ 2147483647 ∷ 0xff_ffff ∷ 255 ∷ []

-- one of them 8193, or -8193
abbrev pub Beyond : ℕ → Type 0
Beyond k = AfterReset (0x1200_000b ∷ set utmost k 8193) (λ m. status_of m ≡ 8) × AfterReset (0x1200_000b ∷ set utmost k 4294959103) (λ m. status_of m ≡ 8)

-- two textures of 2 by 2, the first sent again
abbrev pub three : List ℕ
three =
    0x1700_0005 ∷ 1 ∷ 2 ∷ 2 ∷ 11 ∷ 12 ∷ 0x1700_0005 ∷ 2 ∷ 2 ∷ 2 ∷ 21 ∷ 22 ∷ 0x1700_0005 ∷ 1 ∷ 2 ∷ 2 ∷ 31 ∷ 32 ∷ []

-- ---- the table
pub record Thirteen : Type 0 where
  -- rule 9.1
  pub case_1 : AfterReset (0x0000_0005 ∷ []) (λ m. status_of m ≡ 4) × AfterReset (0x0400_0000 ∷ []) (λ m. (status_of m ≡ 8) × HeaderNext m)
  -- rule 9.2
  pub case_2 : AfterReset (0x0408_0004 ∷ []) (λ m. (status_of m ≡ 8) × HeaderNext m)
      × AfterReset (0x1708_0003 ∷ []) (λ m. (status_of m ≡ 0) × (m.control.opcode ≡ 0x17) × (m.control.wanted ≡ 524291))
  -- rule 9.3
  pub case_3 : (rgba u : ℕ)
      → AfterReset (clear 4 rgba u) (λ m. status_of m ≡ 8)
      × AnyTime (clear 4 rgba u) (λ m n. (status_of n ≡ bit_or (status_of m) 8) × (n.picture ≡ m.picture))
      × AfterReset (clear 7 rgba u) (λ m. status_of m ≡ 8)
      × AnyTime (clear 7 rgba u) (λ m n. (status_of n ≡ bit_or (status_of m) 8) × (n.picture ≡ picture (map_at (paint (rgba_of rgba)) m.picture.plane) (far_ints pixels) (far_floats pixels)))
  -- rule 9.4
  pub case_4 : (u : ℕ) → AnyTime (clear 1 0x8080_80ff u) (λ m n. (pixel_in n 0 0 ≡ colour 132 132 132 255) × (pixel_in n 3 0 ≡ colour 123 123 123 255))
  -- rule 9.5
  pub case_5 : (dither_of 1 (threshold_at 2 2) ≡ 8) × (dither_of 1 (threshold_at 2 0) ≡ 0) × (dither_of 254 (threshold_at 2 3) ≡ 255) × (dither_of 254 (threshold_at 0 3) ≡ 247)
  -- rule 9.6
  pub case_6 : AfterReset (flat 10 10 10) (λ m. (count_of (drawn m.picture.plane) pixels ≡ 15) × (pixel_in m 2 2 ≡ colour 255 255 255 255) × (pixel_in m 3 2 ≡ colour 0 0 0 0))
  -- rule 9.7
  pub case_7 : AfterReset (flat 0 3 4294967293) (λ m. (depth_in m 2 0 ≡ pos 1) × (depth_in m 0 1 ≡ pos 0) × (depth_in m 0 2 ≡ negsuc 0))
  -- rule 9.8
  pub case_8 : AfterReset (flat 2147483647 2147483647 2147483647) (λ m. m.picture ≡ plain_start.picture)
  -- rule 9.9, whatever the corners
  pub case_9 : (a b c d e f g h i rgb : ℕ)
      → ((tri_of (a ∷ b ∷ c ∷ d ∷ e ∷ f ∷ g ∷ h ∷ i ∷ 0x80_8080 ∷ 128 ∷ [])).color ≡ record { r = 64; g = 64; b = 64; a = 255 })
      × (tri_of (a ∷ b ∷ c ∷ d ∷ e ∷ f ∷ g ∷ h ∷ i ∷ rgb ∷ 300 ∷ []) ≡ tri_of (a ∷ b ∷ c ∷ d ∷ e ∷ f ∷ g ∷ h ∷ i ∷ rgb ∷ 255 ∷ []))
  -- rule 9.10, each of the six and on either side. Taken: it is drawn, here to the first pixel and to the last
  pub case_10 : AfterReset (0x1200_000b ∷ utmost) (λ m. (status_of m ≡ 0) × (pixel_in m 0 0 ≡ colour 255 255 255 255) × (pixel_in m 319 239 ≡ colour 255 255 255 255)) × Beyond 0 × Beyond 1 × Beyond 3 × Beyond 4 × Beyond 6 × Beyond 7
  -- rule 9.11: as it is held, and read, wherever it is sampled
  pub case_11 : (n : ℕ)
      → InStore (λ size. 1 ≤ size) (0x1700_0004 ∷ n ∷ 1 ∷ 1 ∷ 0xf0a5_1234 ∷ []) (λ m. (status_of m ≡ 0) × (as_box.look m.control.box Texture n ≡ some (whole_of n 1 1 (0xf0a5_1234 ∷ []))))
      × ((u v b : Corners) → texel_of (0xf0a5_1234 ∷ []) (record { width = 1; height = 1; u = u; v = v }) b ≡ record { r = 255; g = 0; b = 170; a = 85 })
  -- rule 9.12
  pub case_12 : InStore (λ size. size ≡ 4) three
      (λ m.
      (status_of m ≡ 0) × (view Texture m.control.box.textures.slots m.control.box.textures.words ≡ whole_of 2 2 2 (21 ∷ 22 ∷ []) ∷ whole_of 1 2 2 (31 ∷ 32 ∷ []) ∷ [])
      × (m.control.box.textures.words ≡ 21 ∷ 22 ∷ 31 ∷ 32 ∷ []))
      × InStore (λ size. size ≡ 6) three
      (λ m. (status_of m ≡ 0) × (view Texture m.control.box.textures.slots m.control.box.textures.words ≡ whole_of 2 2 2 (21 ∷ 22 ∷ []) ∷ whole_of 1 2 2 (31 ∷ 32 ∷ []) ∷ []))
  -- rule 9.13
  pub case_13 : (root (of_bits binary32 0x4000_0000) ≡ of_bits binary32 0x3fb5_04f3) × (root (of_bits binary32 1) ≡ of_bits binary32 0x1a35_04f3)
