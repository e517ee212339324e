-- What a run answers, and what a source and data are refused for.
use Rattle.std.proofs.Common.{◌≡◌, ◌≤◌, ◌<◌, ℕ, Bool, true, false, if◌then◌else◌, nat_le, List, Option, Some, None, MatchOption, Ok, Err, refl, sym, ap, subst, ◌∙◌, inl, inr, leb-true}
use Rattle.std.proofs.lemmas.Bool.{leb-false}
use Rattle.affc_ast.specs.Cause.{Cause}
use Rattle.affc_ast.specs.Fits.{outputs}
use Rattle.affc_ast.specs.Meaning.{State, Outcome, Ended, Stuck}
use Rattle.affc_ast.specs.Store.{Store}
use Rattle.affc_interp.specs.Budget.{Run, Stop, StuckBy, OutOfSteps}
use Rattle.affc_interp.specs.DataText.{output_text}
use Rattle.affc_interp.specs.Runs.{within_limit, steps_of}
use Rattle.affc_cli.specs.Run.{Runnable, outcome, RunsTo, RunTextCause}
use Rattle.affc_lines.specs.Told.{RefusesStop}
use Rattle.affc_lines.specs.declared.refusal.Refusal.{Refusal}

-- ---- A run that is cut at a limit

-- it ended within the limit
record EndsAt (outcome : Outcome) (limit : ℕ) (store : Store) : Type 0 where
  last : State
  ends : outcome ≡ Ended last
  within : last.steps ≤ limit
  holds : last.store ≡ store

pair_of : (a b : Store × ℕ) → ◌≡◌ {A = Run} (Ok a) (Ok b) → a ≡ b
pair_of a b e = cc

ends_at : (o : Outcome) (limit : ℕ) (store : Store) (steps : ℕ) → within_limit limit o ≡ Ok (store, steps) → EndsAt o limit store
ends_at (Ended state) limit store steps e = of (nat_le state.steps limit) refl e
  where
    of : (b : Bool) → nat_le state.steps limit ≡ b → ◌≡◌ {A = Run} (if b then Ok (state.store, state.steps) else Err OutOfSteps) (Ok (store, steps)) → EndsAt (Ended state) limit store
    of true is e = record { last = state; ends = refl; within = leb-true state.steps limit is; holds = ap (λ (p : Store × ℕ). p.0) (pair_of (state.store, state.steps) (store, steps) e) }
    of false is e = absurd (cc)
ends_at (Stuck cause n) limit store steps e = of (nat_le n limit) e
  where
    of : (b : Bool) → ◌≡◌ {A = Run} (if b then Err (StuckBy cause) else Err OutOfSteps) (Ok (store, steps)) → EndsAt (Stuck cause n) limit store
    of true e = absurd (cc)
    of false e = absurd (cc)

-- it is stuck within the limit
record StuckAt (outcome : Outcome) (limit : ℕ) (cause : Cause) : Type 0 where
  steps : ℕ
  stuck : outcome ≡ Stuck cause steps
  within : steps ≤ limit

stuck_at : (o : Outcome) (limit : ℕ) (cause : Cause) → within_limit limit o ≡ Err (StuckBy cause) → StuckAt o limit cause
stuck_at (Ended state) limit cause e = of (nat_le state.steps limit) e
  where
    of : (b : Bool) → ◌≡◌ {A = Run} (if b then Ok (state.store, state.steps) else Err OutOfSteps) (Err (StuckBy cause)) → StuckAt (Ended state) limit cause
    of true e = absurd (cc)
    of false e = absurd (cc)
stuck_at (Stuck other n) limit cause e = of (nat_le n limit) refl e
  where
    of : (b : Bool) → nat_le n limit ≡ b → ◌≡◌ {A = Run} (if b then Err (StuckBy other) else Err OutOfSteps) (Err (StuckBy cause)) → StuckAt (Stuck other n) limit cause
    of true is e = record { steps = n; stuck = let same : other ≡ cause = cc in ap (λ c. Stuck c n) same; within = leb-true n limit is }
    of false is e = absurd (cc)

takes_more : (o : Outcome) (limit : ℕ) → within_limit limit o ≡ Err OutOfSteps → limit < steps_of o
takes_more (Ended state) limit e = of (nat_le state.steps limit) refl e
  where
    of : (b : Bool) → nat_le state.steps limit ≡ b → ◌≡◌ {A = Run} (if b then Ok (state.store, state.steps) else Err OutOfSteps) (Err OutOfSteps) → limit < state.steps
    of true is e = absurd (cc)
    of false is e = leb-false state.steps limit is
takes_more (Stuck cause n) limit e = of (nat_le n limit) refl e
  where
    of : (b : Bool) → nat_le n limit ≡ b → ◌≡◌ {A = Run} (if b then Err (StuckBy cause) else Err OutOfSteps) (Err OutOfSteps) → limit < n
    of true is e = absurd (cc)
    of false is e = leb-false n limit is

-- ---- What `run` answers

pub runs_to : (source feed : List ℕ) (limit : ℕ) (text : List ℕ) (of : Runnable source feed) (store : Store) (steps : ℕ)
    → within_limit limit (outcome of) ≡ Ok (store, steps) → text ≡ output_text of.tree (outputs of.tree store) → RunsTo source feed limit text
runs_to source feed limit text of store steps answered written =
    let e = ends_at (outcome of) limit store steps answered in
    record {
      of = of;
      last = e.last;
      ends = e.ends;
      within = e.within;
      written = written ∙ ap (λ s. output_text of.tree (outputs of.tree s)) (sym e.holds);
    }

pub run_refused : (source feed : List ℕ) (limit : ℕ) (of : Runnable source feed) (stop : Option Stop) (refusal : Refusal)
    → MatchOption stop (Unit {0}) (λ s. within_limit limit (outcome of) ≡ Err s) → RefusesStop stop of.tree of.p refusal
    → RunTextCause source feed limit refusal
run_refused source feed limit of None refusal answered is = subst (RunTextCause source feed limit) (sym is) tt
run_refused source feed limit of (Some OutOfSteps) refusal answered is =
    subst (RunTextCause source feed limit) (sym is) (record { of = of; more = takes_more (outcome of) limit answered })
run_refused source feed limit of (Some (StuckBy cause)) refusal answered (inl is) =
    let s = stuck_at (outcome of) limit cause answered in
    subst (RunTextCause source feed limit) (sym is)
    (record { of = of; cause = cause; steps = s.steps; stuck = s.stuck; within = s.within; its_line = refl })
run_refused source feed limit of (Some (StuckBy cause)) refusal answered (inr is) = subst (RunTextCause source feed limit) (sym is) tt
