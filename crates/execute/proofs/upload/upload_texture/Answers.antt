-- If the checks pass, sides and words are as `keep` asks; if they do not, nothing changes. Assumes nothing.
use mathlib.Core.Path.{sym, ◌∙◌}
use mathlib.Core.List.{List}
use Prim.Native.Nat.{ℕ}
use native.Mathlib.Omega.{arith}
use Rattle.std.proofs.lemmas.Result.{err_from_is_err_and}
use Rattle.execute.proofs.Laws.{texture_passes, rest_is, rest_size, loaded_done, loaded_refused}
use Rattle.execute.proofs.upload.upload_texture.Goals as goal

pub returns-in_err-texture_verdict : goal.returns-in_err-texture_verdict
returns-in_err-texture_verdict c =
    let e = err_from_is_err_and c.from_residual.result c.from_residual.ensures.1 in
    rw (e.1, e.2) (loaded_refused _ _ _ (sym c.texture_verdict.ensures ∙ c.in_err-texture_verdict.was))

pub bounds-p-0 : goal.bounds-p-0
bounds-p-0 c = omega (arith, (texture_passes _ (sym c.texture_verdict.ensures ∙ c.in_ok-texture_verdict.was)).front)

pub bounds-p-1 : goal.bounds-p-1
bounds-p-1 c = omega (arith, (texture_passes _ (sym c.texture_verdict.ensures ∙ c.in_ok-texture_verdict.was)).front)

pub bounds-p-2 : goal.bounds-p-2
bounds-p-2 c = omega (arith, (texture_passes _ (sym c.texture_verdict.ensures ∙ c.in_ok-texture_verdict.was)).front)

pub slice_bounds-keep-count : goal.slice_bounds-keep-count
slice_bounds-keep-count c = omega (arith, (texture_passes _ (sym c.texture_verdict.ensures ∙ c.in_ok-texture_verdict.was)).front)

pub slice_bounds-keep-start : goal.slice_bounds-keep-start
slice_bounds-keep-start c = omega (arith, (texture_passes _ (sym c.texture_verdict.ensures ∙ c.in_ok-texture_verdict.was)).front)

pub keep-requires : goal.keep-requires
keep-requires c = let p = (texture_passes _ (sym c.texture_verdict.ensures ∙ c.in_ok-texture_verdict.was)) in record { formed = c.requires; height_value = p.sides; words_len = rest_size p }

pub returns : goal.returns
returns c =
    let p : List ℕ = c.args.p.now in
    (rw (rest_is p 3) at c.keep.ensures) ∙ sym (loaded_done _ _ _ (sym c.texture_verdict.ensures ∙ c.in_ok-texture_verdict.was))
