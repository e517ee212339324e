-- Each example computes.
use Rattle.std.proofs.Common.{◌<◌, ◌^◌, ℕ, [], ◌∷◌, refl, sym, arith, lit≤}
use Rattle.std.specs.Prelude.{All}
use Rattle.std.proofs.lemmas.Bool.{true≢false}
use Rattle.std.proofs.lemmas.List.Elements.{All-nil, All-cons}
use Rattle.std.specs.Fmt.{digits}
use denote.Hole.Carrier.{hidden}
use Rattle.affc_ast.specs.declared.tree.Ix.TheBlock.{shape-the_row-Ix-0, hidden-the_row-Ix-0}
use Rattle.affc_ast.specs.declared.tree.Stmt.TheBlock.{shape-the_row-Stmt-0, hidden-the_row-Stmt-0}
use Rattle.affc_ast.specs.declared.tree.Val.TheBlock.{shape-the_row-Val-0, hidden-the_row-Val-0}
use Rattle.affc_interp.specs.Examples.{StepsAreEnough, DataIsTheStart, FloorsAndRemainders, ElementsAreCounted, ValuesStandInOrder, OutputsAreWritten, DataIsRead, UnmetContextIsWrong}

pub steps_are_enough : StepsAreEnough
unfolding shape-the_row-Ix-0 hidden-the_row-Ix-0 shape-the_row-Val-0 hidden-the_row-Val-0 shape-the_row-Stmt-0 hidden-the_row-Stmt-0 hidden
steps_are_enough = (refl, refl)

pub data_is_the_start : DataIsTheStart
unfolding shape-the_row-Ix-0 hidden-the_row-Ix-0 hidden
data_is_the_start = refl

pub floors_and_remainders : FloorsAndRemainders
unfolding shape-the_row-Ix-0 hidden-the_row-Ix-0 shape-the_row-Val-0 hidden-the_row-Val-0 shape-the_row-Stmt-0 hidden-the_row-Stmt-0 hidden
floors_and_remainders = refl

pub elements_are_counted : ElementsAreCounted
unfolding shape-the_row-Ix-0 hidden-the_row-Ix-0 hidden
elements_are_counted = (refl, refl, refl, refl, refl)

pub values_stand_in_order : ValuesStandInOrder
values_stand_in_order = (refl, refl, refl)

pub outputs_are_written : OutputsAreWritten
unfolding digits
outputs_are_written = (refl, refl)

abbrev Small : ℕ → Type 0
Small v = v < 2 ^ 64

small : (a b c d e : ℕ) → Small a → Small b → Small c → Small d → Small e → All Small (a ∷ b ∷ c ∷ d ∷ e ∷ [])
small a b c d e ha hb hc hd he =
    All-cons Small a (b ∷ c ∷ d ∷ e ∷ []) ha (All-cons Small b (c ∷ d ∷ e ∷ []) hb (All-cons Small c (d ∷ e ∷ []) hc (All-cons Small d (e ∷ []) hd (All-cons Small e [] he (All-nil Small)))))

pub data_is_read : DataIsRead
unfolding digits shape-the_row-Ix-0 hidden-the_row-Ix-0 hidden
data_is_read = record { lines = ([], (refl, small 1 2 3 4 5 (lit≤ tt) (lit≤ tt) (lit≤ tt) (lit≤ tt) (lit≤ tt), ([], refl, refl)), refl); context = refl }

pub unmet_context_is_wrong : UnmetContextIsWrong
unfolding digits shape-the_row-Ix-0 hidden-the_row-Ix-0 hidden
unmet_context_is_wrong = record {
  before = 1;
  is_next = refl;
  up_to = record {
    within = lit≤ tt;
    right = ([], (0 ∷ 0 ∷ 0 ∷ 0 ∷ 0 ∷ []) ∷ [], [], ([], (refl, small 0 0 0 0 0 (lit≤ tt) (lit≤ tt) (lit≤ tt) (lit≤ tt) (lit≤ tt), (10 ∷ [], refl, (refl, refl))), refl));
    wrong = λ lt b. omega arith;
  };
  no_data = λ p values f. true≢false (sym f.context);
}
