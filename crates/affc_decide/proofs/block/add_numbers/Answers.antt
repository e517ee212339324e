use Rattle.std.proofs.Common.{◌∙◌, refl, sym, subst}
use Rattle.affc_rows.specs.Forms.{Affine}
use Rattle.affc_decide.specs.Words.{texts_of}
use Rattle.affc_decide.specs.Blocks.{AddsRow, Row}
use Rattle.affc_decide.specs.declared.block.Block.{Block}
use Rattle.affc_decide.proofs.Said.{if_err_then, on_ok_then, row_once, some_same}
use Rattle.affc_decide.proofs.block.add_numbers.Goals as goal

pub returns-in-Some-clause-taken : goal.returns-in-Some-clause-taken
returns-in-Some-clause-taken c = on_ok_then c.add_row.result (λ added. (Row c.in_ok-row.row, c.in_ok-row.ensures.said, (c.in-Some.block, c.in-Some.is, refl, added))) c.add_row.ensures.added

pub returns-in-Some-clause-none : goal.returns-in-Some-clause-none
returns-in-Some-clause-none c = if_err_then c.add_row.result (λ e none is row added after say taken.
    let same = row_once (texts_of c.args.words.now) row c.in_ok-row.row say c.in_ok-row.ensures.said in
    let block = some_same taken.0 c.in-Some.block (sym taken.1 ∙ c.in-Some.is) in
    none is after (subst (λ (f : Affine). AddsRow c.in-Some.block f after) same (subst (λ (b : Block). AddsRow b row after) block taken.3))) c.add_row.ensures.none
