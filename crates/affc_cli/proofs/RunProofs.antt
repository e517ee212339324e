-- `run` has to succeed on a source and data that end within the steps.
use Rattle.std.proofs.Common.{◌≡◌, ◌≤◌, ◌<◌, ℕ, List, refl, sym, ap, subst, ◌∙◌, inl, inr, arith}
use Rattle.affc_io.specs.Count.{Rose}
use Rattle.affc_io.specs.Taken.{grown}
use Rattle.affc_ast.specs.Cause.{Cause}
use Rattle.affc_ast.specs.Fits.{outputs}
use Rattle.affc_ast.specs.Meaning.{State, Ended, Stuck, meaning}
use Rattle.affc_grammar.specs.Limits.{limits_of}
use Rattle.affc_grammar.proofs.Texts.{one_tree}
use Rattle.affc_interp.specs.DataText.{FeedReads, output_text}
use Rattle.affc_interp.specs.Runs.{start, steps_of}
use Rattle.affc_interp.proofs.OneData.{data_are_one}
use Rattle.affc_words.specs.Command.{Run}
use Rattle.affc_lines.specs.declared.refusal.Operand.TheVariants as operand
use Rattle.affc_lines.specs.declared.refusal.Refusal.{Refusal}
use Rattle.affc_lines.specs.declared.refusal.Refusal.TheVariants.{Unread, Source, Stuck as StuckRun, Memory, Steps, Data}
use Rattle.affc_cli.specs.Laws.{IsGiven, RunEnds}
use Rattle.affc_cli.specs.Outside.{Outside}
use Rattle.affc_cli.specs.Promise.{RunPromises, Written}
use Rattle.affc_cli.specs.Refusal.{RunCause, TextsRefused}
use Rattle.affc_cli.specs.Run.{Runnable, outcome, RunsTo, RunTextCause}
use Rattle.affc_cli.proofs.LawProofs.{runs_of, ends, not_unread, same_text}
use Rattle.affc_cli.proofs.Ranges.{ranges_read}
use Rattle.affc_cli.proofs.Readings.{no_fault}

not_stuck : (last : State) (cause : Cause) (steps : ℕ) → Stuck cause steps ≡ Ended last → ⊥
not_stuck last cause steps e = cc

same_end : (a b : State) → Ended a ≡ Ended b → a ≡ b
same_end a b e = cc

module _ (text feed_text : List ℕ) (limit : ℕ) (r : Runnable text feed_text) (last : State) (ended : outcome r ≡ Ended last) (within : last.steps ≤ limit) where
  -- whatever the texts are read as, the run is this one
  same_outcome : (other : Runnable text feed_text) → outcome other ≡ outcome r
  same_outcome other =
      let tree = one_tree limits_of text other.tree r.tree other.reads r.reads in
      let feeds : FeedReads feed_text r.tree other.p other.values = subst (λ t. FeedReads feed_text t other.p other.values) tree other.feeds in
      let one = data_are_one feed_text r.tree other.p r.p other.values r.values (ranges_read text r.tree r.reads) feeds r.feeds in
      λ i. meaning (tree i) (one.0 i) (start (tree i) (one.0 i) (one.1 i))

  ended_only : (refusal : Refusal) → RunTextCause text feed_text limit refusal → refusal ≡ Memory
  ended_only (Source fault) c = absurd (no_fault text fault r.tree r.reads c)
  ended_only (StuckRun line) c = absurd (not_stuck last c.cause c.steps (sym c.stuck ∙ (same_outcome c.of ∙ ended)))
  ended_only Steps c =
      let e : steps_of (outcome c.of) ≡ last.steps = ap steps_of (same_outcome c.of ∙ ended) in
      let more : limit < steps_of (outcome c.of) = c.more in
      absurd (omega (arith, e, more, within))
  ended_only (Data number) c =
      let tree = one_tree limits_of text r.tree c.tree r.reads c.reads in
      absurd (c.wrong.no_data r.p r.values (subst (λ t. FeedReads feed_text t r.p r.values) tree r.feeds))
  ended_only Memory c = refl
  ended_only _ c = absurd c

  -- what is written is what the output arrays hold at the end of this run
  told : (written : List ℕ) → RunsTo text feed_text limit written → written ≡ output_text r.tree (outputs r.tree last.store)
  told written t =
      let tree = one_tree limits_of text t.of.tree r.tree t.of.reads r.reads in
      let end : t.last ≡ last = same_end t.last last (sym t.ends ∙ (same_outcome t.of ∙ ended)) in
      t.written ∙ (λ i. output_text (tree i) (outputs (tree i) (end i).store))

  module _ (source feed : List ℕ) (before now : Outside) (given : IsGiven before.folder.held source text) (given_feed : IsGiven before.folder.held feed feed_text) (none : ¬ (Rose before.folder.faults now.folder.faults)) where
    texts_only : (refusal : Refusal) → TextsRefused refusal before.folder now.folder source feed limit → refusal ≡ Memory
    texts_only refusal t =
        let a : t.texts.source_text ≡ text = same_text before.folder.held source text t.texts.source_text given.holds t.texts.source_held in
        let b : t.texts.feed_text ≡ feed_text = same_text before.folder.held feed feed_text t.texts.feed_text given_feed.holds t.texts.feed_held in
        ended_only refusal (subst (λ s. RunTextCause s feed_text limit refusal) a (subst (λ f. RunTextCause t.texts.source_text f limit refusal) b t.cause))

    run_only : (refusal : Refusal) → RunCause refusal source feed limit before.folder now.folder → refusal ≡ Memory
    run_only (Unread operand.Source why) c = absurd (not_unread why source text before.folder now.folder given none c.unread)
    run_only (Unread operand.Data why) c = absurd (not_unread why feed feed_text before.folder now.folder given_feed none c.unread)
    run_only Memory c = refl
    run_only _ c = texts_only _ c

    run_written : Written (Run source feed limit) before now → now.out.taken ≡ grown before.out.taken (output_text r.tree (outputs r.tree last.store))
    run_written w =
        let p : RunPromises source feed limit before.folder now.folder w.makes.text w.makes.report = w.makes.promised in
        let a : p.texts.source_text ≡ text = same_text before.folder.held source text p.texts.source_text given.holds p.texts.source_held in
        let b : p.texts.feed_text ≡ feed_text = same_text before.folder.held feed feed_text p.texts.feed_text given_feed.holds p.texts.feed_held in
        let t : RunsTo text feed_text limit w.makes.text =
        subst (λ s. RunsTo s feed_text limit w.makes.text) a (subst (λ f. RunsTo p.texts.source_text f limit w.makes.text) b p.runs_to) in
        w.out ∙ ap (grown before.out.taken) (told w.makes.text t)

pub run_ends : RunEnds
run_ends source feed limit before now status text feed_text r last served none given given_feed ended within =
    let command = Run source feed limit in
    let runs = runs_of command before now status served in
    let only = run_only text feed_text limit r last ended within source feed before now given given_feed none.folder in
    elim (ends command before now status runs none only) [
      | inl done ↦ inl (done, run_written text feed_text limit r last ended within source feed before now given given_feed none.folder (runs.done done))
      | inr short ↦ inr short
    ]
