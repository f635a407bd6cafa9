-- Each way out is what the definition says there. Assumes nothing.
use mathlib.Core.Path.{sym, ◌∙◌}
use native.Mathlib.Omega.{arith}
use Rattle.payload.specs.Words.{word_at}
use Rattle.store.specs.declared.Kind.TheVariants.{Texture}
use Rattle.store.proofs.Walk.{area-most}
use Rattle.execute.proofs.Laws.{because-is, texture_short, width-zero, height-zero, width_large, height_large, texture_done, texture_wrong, texture_sides}
use Rattle.execute.proofs.upload.texture_verdict.Goals as goal

pub returns-then-p-lt3 : goal.returns-then-p-lt3
returns-then-p-lt3 c = because-is c.wrong_length.ensures ∙ sym (texture_short _ (omega arith))

pub returns-then-width-eq0 : goal.returns-then-width-eq0
returns-then-width-eq0 c = because-is c.out_of_range.ensures ∙ sym (width-zero _ (omega arith) c.if-width-eq0.true)

pub returns-then-height-eq0 : goal.returns-then-height-eq0
returns-then-height-eq0 c = because-is c.out_of_range-then-height-eq0.ensures ∙ sym (height-zero _ (omega arith) (omega arith) c.if-height-eq0.true)

pub returns-then-width-gt1024 : goal.returns-then-width-gt1024
returns-then-width-gt1024 c = because-is c.out_of_range-then-width-gt1024.ensures ∙ sym (width_large _ (omega arith) (omega arith) (omega arith) (omega arith))

pub returns-then-height-gt1024 : goal.returns-then-height-gt1024
returns-then-height-gt1024 c = because-is c.out_of_range-then-height-gt1024.ensures ∙ sym (height_large _ (omega arith) (omega arith) (omega arith) (omega arith) (omega arith))

pub overflow_add-area : goal.overflow_add-area
overflow_add-area c = let p = c.args.p.now in
    omega (arith, c.area.ensures, area-most Texture (word_at p 1) (word_at p 2) (texture_sides (word_at p 1) (word_at p 2) (omega arith) (omega arith) (omega arith) (omega arith)))

pub returns-then-p-area : goal.returns-then-p-area
returns-then-p-area c = because-is c.wrong_length-then-p-area.ensures ∙ sym (texture_wrong _ (omega arith) (omega arith) (omega arith) (omega arith) (omega arith) (λ e. omega (arith, c.area.ensures)))

pub returns : goal.returns
returns c = sym (texture_done _ (omega arith) (omega arith) (omega arith) (omega arith) (omega arith) (omega (arith, c.area.ensures)))
