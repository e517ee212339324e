-- What is made within a budget that may count as none.
use Rattle.std.proofs.Common.{◌≡◌, ℕ, ◌<◌, ◌≤◌, ◌^◌, ◌-◌, lit≤, Bool, true, false, true≢false, List, Option, Some, None, refl, sym, ap, subst, ◌∙◌, ◌⊎◌, inl, inr, arith}
use Rattle.std.specs.Prelude.{is_some, nat_le, min, if◌then◌else◌}
use Rattle.std.proofs.lemmas.Bool.{leb-true, leb-false, cases_lt}
use Rattle.std.proofs.Math.Nat.{le_trans, min-eq_left, min-eq_right, min-le_left}
use Rattle.affc_ast.specs.declared.tree.Program.{Program}
use Rattle.affc_grammar.specs.Limits.{limits_of}
use Rattle.affc_grammar.proofs.Texts.{one_tree}
use Rattle.affc_trace.specs.declared.schedule.Schedule.{Schedule}
use Rattle.affc_domain.specs.Ranges.{first_wide}
use Rattle.affc_split.specs.Budgets.{Account, IsLater}
use Rattle.affc_nest.specs.declared.nest.Nest.{Nest}
use Rattle.affc_nest.specs.Nests.{nest_of}
use Rattle.affc_foldprint.specs.Laws.{FoldsWellNamed, FoldsCompile}
use Rattle.affc_schedtext.specs.declared.plan.Plan.{Plan}
use Rattle.affc_bounds.specs.threshold.Thresholds.{threshold}
use Rattle.affc_weigh.specs.Costs.{stopped}
use Rattle.affc_driver.specs.Accounts.{free, reaches, is_plenty, FoldsMade, IsShort, IsPlenty}
use Rattle.affc_driver.specs.Made.{IsCompiled}
use Rattle.affc_driver.specs.Plans.{HasPlan}
use Rattle.affc_driver.specs.Programs.{OfEachPlan}
use Rattle.affc_driver.specs.declared.folding.Made.{Made}
use Rattle.affc_driver.specs.declared.wanted.Wanted.{Wanted}
use Rattle.affc_driver.proofs.Compiled.{folds_to}
use Rattle.affc_driver.proofs.OnePlan.{one_threshold}
use Rattle.affc_driver.proofs.Refused.{planned}

module _ (named : FoldsWellNamed) (compiled : FoldsCompile) (Answers : List ℕ → ℕ → Type 0) (program : Program) (plan : Plan) where
  -- the account is that of what is left
  pub folds_made : (account left : Account) (wanted : Wanted) (made : Made) → account ≡ (if is_plenty program plan.schedule left.limit then free else left)
      → IsCompiled Answers program plan account wanted made → OfEachPlan program plan (λ text schedule. FoldsMade Answers text schedule left wanted made)
  unfolding folds_to
  folds_made account left wanted made is h schedule has text reads bare = record {
    at_cost = record {
      folds_with = record {
        account = account;
        folds_to = folds_to named compiled Answers text schedule program plan account h.folds h.choices made.done.text.items made.done.report.items reads bare h.within h.decided has h.is;
        counted = is;
      };
      total = h.total;
    };
    certified = h.certified;
  }

-- where a limit isn't plenty, it is below the threshold
pub is_short : (program : Program) (plan : Plan) (limit : Option ℕ) (most : ℕ) → first_wide program ≡ None → limit ≡ Some most → is_plenty program plan.schedule limit ≡ false → OfEachPlan program plan (λ text schedule. IsShort text schedule limit)
is_short program plan limit most near e few schedule has text reads bare = record {
  of = planned program plan schedule has text reads bare;
  near = near;
  most = most;
  limited = e;
  below = leb-false (threshold (nest_of program) plan.schedule) most (sym (ap (λ l. reaches l (threshold (nest_of program) plan.schedule)) e) ∙ few);
}

-- whichever program and plan are read, where a limit is plenty for them, it is for these
pub plenty_here : (program : Program) (plan : Plan) (limit : Option ℕ) → OfEachPlan program plan (λ text schedule. IsPlenty text schedule limit → is_plenty program plan.schedule limit ≡ true)
plenty_here program plan limit schedule has text reads bare p =
    let tree = one_tree limits_of text p.of.tree program p.of.reads reads in
    let here : HasPlan program schedule p.of.plan = subst (λ t. HasPlan t schedule p.of.plan) tree p.of.planned in
    ap (reaches limit) (one_threshold (nest_of program) program schedule plan p.of.plan has here) ∙ (ap (λ t. is_plenty t p.of.plan.schedule limit) (sym tree) ∙ p.reached)

same_tests : (m n l : ℕ) → (m ≤ l → n ≤ l) → (n ≤ l → m ≤ l) → nat_le m l ≡ nat_le n l
same_tests m n l to back = by_tests (nat_le m l) (nat_le n l) refl refl
  where
    by_tests : (a b : Bool) → nat_le m l ≡ a → nat_le n l ≡ b → a ≡ b
    by_tests true true e f = refl
    by_tests false false e f = refl
    by_tests true false e f = let low = to (leb-true m l e) in let high = leb-false n l f in absurd (omega arith)
    by_tests false true e f = let high = leb-false m l e in let low = back (leb-true n l f) in absurd (omega arith)

below_stop : (most top n l : ℕ) → top ≤ most → l < top → min n most ≤ l → n ≤ l
below_stop most top n l wide small low = elim (cases_lt n most) [
  | inl k ↦ (let less : n ≤ most = omega arith in let e : min n most ≡ n = min-eq_left less in omega arith)
  | inr k ↦ (let e : min n most ≡ most = min-eq_right k in absurd (omega arith))
]

-- the threshold stops at the greatest number of 128 bits, which no limit reaches
pub stopped_reaches : (n l : ℕ) → l < 2 ^ 64 → nat_le (stopped n) l ≡ nat_le n l
stopped_reaches n l h = same_tests (stopped n) n l (below_stop (2 ^ 128 - 1) (2 ^ 64) n l (lit≤ tt) h) (λ low. le_trans (min-le_left n (2 ^ 128 - 1)) low)

-- the answer of the test, of the limit afterwards
pub test_is : (program : Program) (nest : Nest) (schedule : Schedule) (before after : Option ℕ) (answer which : Bool) → nest ≡ nest_of program → answer ≡ reaches before (threshold nest schedule) → answer ≡ which → after ≡ before
    → is_plenty program schedule after ≡ which
test_is program nest schedule before after answer which is tells here same =
    ap (λ l. reaches l (threshold (nest_of program) schedule)) same ∙ (ap (λ n. reaches before (threshold n schedule)) (sym is) ∙ (sym tells ∙ here))

-- nothing is counted afterwards where nothing was
pub stays_free : (before after : Account) → before ≡ free → IsLater before after → after ≡ free
stays_free before after is later = nothing after (later.limit ∙ ap (λ (a : Account). a.limit) is) (later.uncounted (ap (λ (a : Account). is_some a.limit) is) ∙ ap (λ (a : Account). a.spent) is)
  where
    nothing : (a : Account) → a.limit ≡ None → a.spent ≡ 0 → a ≡ free
    nothing a e f = λ i. record { limit = e i; spent = f i }

pub free_counted : (test : Bool) (account left : Account) → test ≡ true → account ≡ free → account ≡ (if test then free else left)
free_counted test account left e f = rw e f

pub all_counted : (test : Bool) (left : Account) → test ≡ false → left ≡ (if test then free else left)
all_counted test left e = rw e refl

-- what is counted where there is no limit, or a plenty
pub nothing_counted : (account left : Account) (threshold : ℕ) → account ≡ (if reaches left.limit threshold then free else left) → (left.limit ≡ None) ⊎ (reaches left.limit threshold ≡ true) → account.limit ≡ None
nothing_counted account left threshold is h = ap (λ (a : Account). a.limit) is ∙ by_test (reaches left.limit threshold) h
  where
    by_test : (b : Bool) → (left.limit ≡ None) ⊎ (b ≡ true) → (if b then free else left).limit ≡ None
    by_test true h = refl
    by_test false (inl none) = none
    by_test false (inr e) = absurd (true≢false (sym e))
