-- The original as it reads (rule 10.1): a `Vpu` with its maps of uploads, from `new` and `push` on. No slot, no store, no history, no room, no bound on coordinates.
-- What its arms do is shared with the port: `told`, and paints. That these are what the Rust does is shown by runs and not by proof. Definitions only.
use Rattle.std.specs.Prelude.{ℕ, ◌+◌, ◌-◌, ◌*◌, ◌/◌, ◌%◌, cond, ◌&&◌, List, [], ◌∷◌, ◌++◌, eqb, ltb, length, drop, get_or, replicate}
use Rattle.verdict.specs.Verdict.{done}
use Rattle.std.proofs.Math.Option.{Option, none, some}
use Rattle.std.specs.Int.Bits.{bit_or}
use Rattle.payload.specs.Words.{when_done}
use Rattle.screen.specs.Plane.{plane_bytes}
use Rattle.screen.specs.Draw.{pixels}
use Rattle.screen.specs.Depths.{far_ints, far_floats}
use Rattle.settings.specs.declared.Settings.{Settings}
use Rattle.settings.specs.Settings as settings
use Rattle.store.specs.declared.Kind.{Kind}
use Rattle.store.specs.declared.Kind.TheVariants.{Texture, Model}
use Rattle.store.specs.Uploads.{Whole}
use Rattle.flat.specs.Words.{tri_of}
use Rattle.execute.specs.Paints.{Picture, picture, flat, paints_on}
use Rattle.execute.specs.Commands.{Look, Load, Told, tells, unknown, told}

-- lines 42 to 59, `Vpu`. The FIFO holds at most the word that is pushed, so that status bits 0 and 5 are never seen; a texture is kept as its words
pub record Vpu : Type 0 where
  pub picture : Picture
  pub settings : Settings
  pub uploads : Look
  pub command : List ℕ
  pub expected : Option ℕ
  pub status : ℕ

-- lines 62 to 81, `new`
abbrev pub new : Vpu
new = record {
  picture = picture (replicate plane_bytes 0) (far_ints pixels) (far_floats pixels);
  settings = settings.fresh;
  uploads = λ k n. none;
  command = [];
  expected = none;
  status = 0;
}

-- `insert` of a `HashMap`: what was under the number goes
abbrev pub insert : (ℕ → Option Whole) → Whole → ℕ → Option Whole
insert held u n = cond (eqb u.number n) (some u) (held n)

-- line 316, `self.textures.insert`, and line 523, `self.models.insert`
abbrev pub inserted : Look → Kind → Whole → Look
inserted held Texture u Texture = insert (held Texture) u
inserted held Texture u Model = held Model
inserted held Model u Texture = held Texture
inserted held Model u Model = insert (held Model) u

abbrev pub kept : Look → Option Load → Look
kept held none = held
kept held (some l) = inserted held l.kind l.whole

-- what is done at opcode 10. The original refuses it, in line 222; with request A2 a sprite is copied, by the rules of section 11
abbrev pub Tenth : Type 0
Tenth = Look → Settings → List ℕ → Told

abbrev pub refuses : Tenth
refuses held s p = tells unknown s []

abbrev pub copies : Tenth
copies held s p = told held s 0x10 p

-- lines 151 to 224, the arms. Line 206, `0x12 if p.len() == 11`: any triangle is drawn, here over whole numbers; outside the domain nothing is claimed
unfoldable pub arm : Tenth → Look → Settings → ℕ → List ℕ → Told
arm ten held s opcode p =
    cond (eqb opcode 0x10) (ten held s p) (cond (eqb opcode 0x12 && eqb (length p) 11) (tells done s (flat (tri_of p) ∷ [])) (told held s opcode p))

-- what an arm does, `self.status |= 1 << 3` if it refuses; then lines 225 and 226
abbrev pub ended : Vpu → Told → Vpu
ended v t = record {
  picture = paints_on t.paints v.picture;
  settings = t.settings;
  uploads = kept v.uploads t.load;
  command = [];
  expected = none;
  status = when_done t.verdict v.status (bit_or v.status 8);
}

-- `self.status |= bit`
abbrev pub marked : Vpu → ℕ → Vpu
marked v bit = record { picture = v.picture; settings = v.settings; uploads = v.uploads; command = v.command; expected = v.expected; status = bit_or v.status bit }

-- a command with so many words left
abbrev pub waiting : Vpu → List ℕ → ℕ → Vpu
waiting v command left = record { picture = v.picture; settings = v.settings; uploads = v.uploads; command = command; expected = some left; status = v.status }

-- line 10, `MAX_COMMAND_WORDS`
abbrev pub max_command_words : ℕ
max_command_words = 3 + 1024 * 1024 / 2

module _ (ten : Tenth) where
  -- lines 148 to 227, `execute`: the opcode is `self.command[0]`, and p is `self.command[1..]`
  unfoldable pub execute : Vpu → Vpu
  execute v = ended v (arm ten v.uploads v.settings (get_or v.command 0 0) (drop 1 v.command))

  -- lines 130 to 135 and 137 to 142: it runs if none is left
  unfoldable pub await : Vpu → List ℕ → ℕ → Vpu
  await v command left = cond (eqb left 0) (execute (waiting v command left)) (waiting v command left)

  -- lines 119 to 143, `pump` on one word: a header if nothing is expected, else a payload word
  abbrev pub pump : Vpu → ℕ → Option ℕ → Vpu
  pump v word none =
      let opcode = word / 16777216 in
      let count = word % 16777216 in
      cond (eqb opcode 0) (marked v 4) (cond (ltb max_command_words count) (marked v 8) (await v (opcode ∷ []) count))
  pump v word (some n) = await v (v.command ++ (word ∷ [])) (n - 1)

  -- lines 106 to 114, `push`
  unfoldable pub push : Vpu → ℕ → Vpu
  push v word = pump v word v.expected

  -- words pushed one after the other
  unfoldable pub pushes : Vpu → List ℕ → Vpu
  pushes v [] = v
  pushes v (w ∷ ws) = pushes (push v w) ws
