-- If the checks pass, sides and words are as `keep` asks; if they do not, nothing changes. Assumes nothing.
use mathlib.Core.Path.{sym, ◌∙◌}
use mathlib.Core.List.{List}
use Prim.Native.Nat.{ℕ}
use native.Mathlib.Omega.{arith}
use Rattle.std.proofs.lemmas.Result.{err_from_is_err_and}
use Rattle.execute.proofs.Laws.{count_passes, rest_is, rest_size, loaded_done, loaded_refused}
use Rattle.execute.proofs.upload.upload_model.Goals as goal

pub returns-in_err-count_verdict : goal.returns-in_err-count_verdict
returns-in_err-count_verdict c =
    let e = err_from_is_err_and c.from_residual.result c.from_residual.ensures.1 in
    rw (e.1, e.2) (loaded_refused _ _ _ (sym c.count_verdict.ensures ∙ c.in_err-count_verdict.was))

pub bounds-p-0 : goal.bounds-p-0
bounds-p-0 c = omega (arith, (count_passes _ c.requires.p_len_bound (sym c.count_verdict.ensures ∙ c.in_ok-count_verdict.was)).front)

pub bounds-p-1 : goal.bounds-p-1
bounds-p-1 c = omega (arith, (count_passes _ c.requires.p_len_bound (sym c.count_verdict.ensures ∙ c.in_ok-count_verdict.was)).front)

pub slice_bounds-keep-count : goal.slice_bounds-keep-count
slice_bounds-keep-count c = omega (arith, (count_passes _ c.requires.p_len_bound (sym c.count_verdict.ensures ∙ c.in_ok-count_verdict.was)).front)

pub slice_bounds-keep-start : goal.slice_bounds-keep-start
slice_bounds-keep-start c = omega (arith, (count_passes _ c.requires.p_len_bound (sym c.count_verdict.ensures ∙ c.in_ok-count_verdict.was)).front)

pub keep-requires : goal.keep-requires
keep-requires c = let p = (count_passes _ c.requires.p_len_bound (sym c.count_verdict.ensures ∙ c.in_ok-count_verdict.was)) in record { formed = c.requires.formed; height_value = p.sides; words_len = rest_size p }

pub returns : goal.returns
returns c =
    let p : List ℕ = c.args.p.now in
    (rw (rest_is p 2) at c.keep.ensures) ∙ sym (loaded_done _ _ _ (sym c.count_verdict.ensures ∙ c.in_ok-count_verdict.was))
