-- The program has to succeed where nothing is in its way, and what it writes then keeps the outputs of the source.
use Rattle.std.proofs.Common.{◌≡◌, ◌≢◌, ◌≤◌, ◌<◌, ◌⊎◌, ℕ, ℤ, List, [], ◌∷◌, length, Option, None, Some, Result, Ok, Err, MatchOption, refl, sym, ap, subst, ◌∙◌, inl, inr, arith}
use Rattle.std.proofs.lemmas.Bool.Decides.{eqb_tells}
use Rattle.std.proofs.lemmas.List.{append_cancel_left}
use Rattle.std.proofs.lemmas.Option.{none-some, same_Some}
use Rattle.affc_io.specs.Count.{Rose}
use Rattle.affc_io.specs.Files.{Holds, held_under}
use Rattle.affc_io.specs.Reads.{Read}
use Rattle.affc_io.specs.State.{Files, FolderState}
use Rattle.affc_io.specs.declared.folder.ReadFault.{ReadFault}
use Rattle.affc_io.specs.Taken.{grown}
use Rattle.affc_io.specs.declared.folder.TheConstants.{LONGEST_READ}
use Rattle.affc_ast.specs.Compiles.{CompilesText, RunsAs}
use Rattle.affc_ast.specs.Follows.{Order, Places}
use Rattle.affc_ast.specs.Store.{Store}
use Rattle.affc_grammar.specs.Reads.{Reads, ReadsWide}
use Rattle.affc_trace.specs.Laws.{in_target_order}
use Rattle.affc_split.specs.Budgets.{Account}
use Rattle.affc_basis.specs.Folds.{place}
use Rattle.affc_driver.specs.Folds.{FoldsTo}
use Rattle.affc_driver.specs.Accounts.{IsUnlimited, FoldsWith, FoldsCertified, IsShort}
use Rattle.affc_driver.specs.Laws.{IsFoldable, UnlimitedFoldsAll, UnlimitedIsNotRefused, IsSound, SoundIsNotRefused}
use Rattle.affc_driver.specs.Refusals.{RefusalSays, FlowRefusalSays}
use Rattle.affc_driver.specs.declared.refusal.Refusal.{Refusal as Unfolded}
use Rattle.affc_driver.specs.declared.refusal.Refusal.TheVariants as unfolded
use Rattle.affc_replay.specs.Laws.{IsValid, ValidIsNotRefused}
use Rattle.affc_replay.specs.Replays.{ReplaysTo}
use Rattle.affc_replay.specs.declared.refusal.Refusal.TheVariants as unreplayed
use Rattle.affc_words.specs.declared.words.CostName.{CostName}
use Rattle.affc_words.specs.declared.words.Settings.{Settings}
use Rattle.affc_words.specs.Command.{Command, Fold, Replay, Run, Flow, Big}
use Rattle.affc_lines.specs.Lines.{status_of}
use Rattle.affc_lines.specs.Meaning.{IsMeantLine}
use Rattle.affc_lines.specs.declared.refusal.Operand.TheVariants as operand
use Rattle.affc_lines.specs.declared.refusal.Refusal.{Refusal}
use Rattle.affc_lines.specs.declared.refusal.Refusal.TheVariants.{Unread, Source, Printed, Schedule, Meaning, Illegal, Budget, Memory, Certificate, Check}
use Rattle.affc_lines.specs.declared.refusal.UnreadWhy.{UnreadWhy}
use Rattle.affc_lines.specs.declared.refusal.UnreadWhy.TheVariants.{Unreadable, Long}
use Rattle.affc_cli.specs.Budgets.{answers_of, CertifiedWithin, FoldMakes}
use Rattle.affc_cli.specs.Laws.{IsServed, IsGiven, IsGivenAny, NoFault, IsFoldedWhole, FoldEnds, FlowEnds, ReplayEnds, CertificatesAreValid, EndAlike, KeepsOutputs, OutputsAreKept, OutputsAreKeptAsRead, KeepsStores, StoresFollow}
use Rattle.affc_cli.specs.Outside.{Outside, IsRead}
use Rattle.affc_cli.specs.Promise.{FoldPromises, ReplayPromises, Cause, Written, Failed, IsRefused, Runs, WordsRefused}
use Rattle.affc_cli.specs.Refusal.{IsUnread, IsScheduleUnread, HoldsAny, answered_any, TextCause, TextRefused, FoldCause, FlowRefused, FlowTextCause, FlowCause, ReplayRefused, ReplayCause}
use Rattle.affc_cli.specs.Replay.{ReplayTextCause}
use Rattle.affc_cli.proofs.Readings.{same_plenty, certified_is_valid}

-- ---- What the command does

pub runs_of : (command : Command) (before now : Outside) (status : ℕ) → IsServed command before now status → Runs command before now status
runs_of command before now status s =
    subst (λ c. MatchOption c (WordsRefused before now status) (λ own. Runs own before now status)) s.stand_for s.serves

not_failed : (command : Command) (before now : Outside) → NoFault before now → Failed command before now → ⊥
not_failed command before now none (inl f) = none.folder f.fault
not_failed command before now none (inr (inl f)) = none.out f.fault
not_failed command before now none (inr (inr f)) = none.err f.fault

-- it is done or short of memory, where no fault is counted and no refusal but for want of memory has its cause
pub ends : (command : Command) (before now : Outside) (status : ℕ) → Runs command before now status → NoFault before now
    → ((refusal : Refusal) → Cause command refusal before.folder now.folder → refusal ≡ Memory) → (status ≡ 0) ⊎ (status ≡ 9)
ends command before now status runs none only = elim (eqb_tells status 0) [
  | inl done ↦ inl done.1
  | inr undone ↦ elim (eqb_tells status 9) [
    | inl short ↦ inr short.1
    | inr enough ↦ elim (eqb_tells status 10) [
      | inl failed ↦ absurd (not_failed command before now none (runs.failed failed.1))
      | inr kept ↦ (let r : IsRefused command before now status = runs.refused undone.1 enough.1 kept.1 in inr (r.is_status ∙ ap status_of (only r.refusal r.cause)))
    ]
  ]
]

-- ---- Files that are given are read

is_missing : (held : Option Files) (name text : List ℕ) (rose : Type 0) → held_under held name ≡ Some text → MatchOption held rose (λ files. files name ≡ None) → ⊥
is_missing None name text rose h m = none-some text h
is_missing (Some files) name text rose h m = none-some text (sym m ∙ h)

is_long : (held : Option Files) (name text : List ℕ) (rose : Type 0) → held_under held name ≡ Some text → length text ≤ LONGEST_READ
    → MatchOption held rose (λ files. (bytes : List ℕ) × ((files name ≡ Some bytes) × (LONGEST_READ < length bytes))) → ⊥
is_long None name text rose h short m = none-some text h
is_long (Some files) name text rose h short m =
    let same : length text ≡ length m.0 = ap length (same_Some text m.0 (sym h ∙ m.1.0)) in
    let long : LONGEST_READ < length m.0 = m.1.1 in
    absurd (omega (arith, same, long, short))

pub not_unread : (why : UnreadWhy) (name text : List ℕ) (before now : FolderState) → IsGiven before.held name text → ¬ (Rose before.faults now.faults) → IsUnread why name before now → ⊥
not_unread Unreadable name text before now given none (inl rose) = none rose
not_unread Unreadable name text before now given none (inr missing) = is_missing before.held name text (Rose before.faults now.faults) given.holds missing
not_unread Long name text before now given none long = is_long before.held name text (Rose before.faults now.faults) given.holds given.short long

not_unread_any : (why : UnreadWhy) (source : List ℕ) (name text : Option (List ℕ)) (before now : FolderState) → IsGivenAny before.held name text → ¬ (Rose before.faults now.faults) → IsScheduleUnread why source name before now → ⊥
not_unread_any why source None text before now given none u = u
not_unread_any why source (Some name) None before now given none u = given
not_unread_any why source (Some name) (Some text) before now given none u = not_unread why name text before now given none u.unread

-- what was read is what is held
pub same_text : (held : Option Files) (name text other : List ℕ) → held_under held name ≡ Some text → Holds held name other → other ≡ text
same_text None name text other h holds = absurd (none-some text h)
same_text (Some files) name text other h holds = same_Some other text (sym holds ∙ h)

pub same_any : (held : Option Files) (name text other : Option (List ℕ)) → IsGivenAny held name text → HoldsAny held name other → other ≡ text
same_any held None text other given holds = holds ∙ sym given
same_any held (Some name) None other given holds = absurd given
same_any held (Some name) (Some text) None given holds = absurd holds
same_any held (Some name) (Some text) (Some other) given holds = ap Some (same_text held name text other given.holds holds)

-- ---- `fold`

module _ (law : UnlimitedIsNotRefused) (text : List ℕ) (order : Option (List ℕ)) (settings : Settings) (f : IsFoldable text order) (plenty : IsUnlimited f.program f.plan.schedule settings.budget) where
  refused : (refusal : Unfolded) → RefusalSays text order refusal → (refusal ≡ unfolded.Budget → IsShort text order settings.budget) → refusal ≡ unfolded.Memory
  refused refusal says short = law text order settings.budget refusal f plenty says short

  not_meant : (line : List ℕ) → IsMeantLine text order line → ⊥
  not_meant line (inl m) = let e = refused (unfolded.Meaning m.fault) m.says (λ e. absurd (cc)) in absurd (cc)
  not_meant line (inr u) = let e = refused (unfolded.Unwritten (record { 0 = u.array }) u.access u.p u.instance) u.says (λ e. absurd (cc)) in absurd (cc)

  text_only : (refusal : Refusal) → TextCause text order settings refusal → refusal ≡ Memory
  text_only (Source fault) c = let e = refused (unfolded.Source fault) c (λ e. absurd (cc)) in absurd (cc)
  text_only (Printed place) c = let e = refused (unfolded.Printed place) c (λ e. absurd (cc)) in absurd (cc)
  text_only (Schedule line) c = let e = refused (unfolded.Schedule c.fault) c.of (λ e. absurd (cc)) in absurd (cc)
  text_only (Meaning line) c = absurd (not_meant line c)
  text_only (Illegal line) c = let e = refused (unfolded.Illegal c.p c.a c.b) c.says (λ e. absurd (cc)) in absurd (cc)
  text_only Budget c = let e = refused unfolded.Budget tt (λ e. c) in absurd (cc)
  text_only Memory c = refl
  text_only _ c = absurd c

  module _ (source : List ℕ) (schedule : Option (List ℕ)) (before now : FolderState) (given : IsGiven before.held source text) (given_too : IsGivenAny before.held schedule order) (none : ¬ (Rose before.faults now.faults)) where
    texts_only : (refusal : Refusal) → TextRefused refusal before now source schedule settings → refusal ≡ Memory
    texts_only refusal r =
        let same : r.texts.source_text ≡ text = same_text before.held source text r.texts.source_text given.holds r.texts.source_held in
        let same_too : r.texts.schedule_text ≡ order = same_any before.held schedule order r.texts.schedule_text given_too r.texts.schedule_held in
        text_only refusal (subst (λ t. TextCause t order settings refusal) same (subst (λ o. TextCause r.texts.source_text o settings refusal) same_too r.cause))

    fold_only : (refusal : Refusal) → FoldCause refusal source schedule settings before now → refusal ≡ Memory
    fold_only (Unread operand.Source why) c = absurd (not_unread why source text before now given none c.unread)
    fold_only (Unread operand.Schedule why) c = absurd (not_unread_any why source schedule order before now given_too none c)
    fold_only Memory c = refl
    fold_only _ c = texts_only _ c

made_of : (file : Option (List ℕ)) (text : List ℕ) (order : Option (List ℕ)) (settings : Settings) (certificate folded report : List ℕ) → FoldMakes file text order settings certificate folded report
    → (left : Account) × ((left.limit ≡ settings.budget) × FoldsWith (answers_of settings.cost) text order left folded report)
made_of None text order settings certificate folded report m = (m.1.left, (m.1.limit, m.1.folds_to.folds_with))
made_of (Some file) text order settings certificate folded report m = (m.left, (m.limit, m.folds_to.folds_with))

module _ (law : UnlimitedIsNotRefused) (all : (cost : CostName) → UnlimitedFoldsAll (answers_of cost)) where
  folded_whole : (source : List ℕ) (schedule : Option (List ℕ)) (settings : Settings) (file : Option (List ℕ)) (before now : Outside) (text : List ℕ) (order : Option (List ℕ)) (f : IsFoldable text order)
      → IsGiven before.folder.held source text → IsGivenAny before.folder.held schedule order → IsUnlimited f.program f.plan.schedule settings.budget
      → Written (Fold source schedule settings file) before now → IsFoldedWhole text order settings before now
  folded_whole source schedule settings file before now text order f given given_too plenty w =
      let p : FoldPromises source schedule settings file before.folder now.folder w.makes.certificate w.makes.text w.makes.report = w.makes.promised in
      let m = made_of file p.texts.source_text p.texts.schedule_text settings w.makes.certificate w.makes.text w.makes.report p.makes in
      let same : p.texts.source_text ≡ text = same_text before.folder.held source text p.texts.source_text given.holds p.texts.source_held in
      let same_too : p.texts.schedule_text ≡ order = same_any before.folder.held schedule order p.texts.schedule_text given_too p.texts.schedule_held in
      let made : FoldsWith (answers_of settings.cost) text order m.0 w.makes.text w.makes.report =
      subst (λ t. FoldsWith (answers_of settings.cost) t order m.0 w.makes.text w.makes.report) same
      (subst (λ o. FoldsWith (answers_of settings.cost) p.texts.source_text o m.0 w.makes.text w.makes.report) same_too m.1.1) in
      let r = made.folds_to in
      let enough : IsUnlimited r.compiles.source r.plan.schedule m.0.limit =
      same_plenty text order m.0.limit f.program r.compiles.source f.plan r.plan f.reads r.compiles.source_reads f.planned r.planned
      (subst (λ l. IsUnlimited f.program f.plan.schedule l) (sym m.1.0) plenty) in
      let whole = all settings.cost text order m.0 w.makes.text w.makes.report made enough in
      record {
        text = w.makes.text;
        report = w.makes.report;
        out = w.out;
        err = w.err;
        left = m.0;
        made = made;
        none_whole = whole.0;
        none_bound = whole.1;
        all_priced = whole.2;
      }

  pub fold_ends : FoldEnds
  fold_ends source schedule settings file before now status text order f served none given given_too plenty =
      let command = Fold source schedule settings file in
      let runs = runs_of command before now status served in
      let only = fold_only law text order settings f plenty source schedule before.folder now.folder given given_too none.folder in
      elim (ends command before now status runs none only) [
        | inl done ↦ inl (done, folded_whole source schedule settings file before now text order f given given_too plenty (runs.done done))
        | inr short ↦ inr short
      ]

-- ---- `flow`

module _ (law : SoundIsNotRefused) (text : List ℕ) (s : IsSound text) where
  untold : (refusal : Unfolded) → FlowRefusalSays text refusal → refusal ≢ unfolded.Budget → refusal ≢ unfolded.Memory → ⊥
  untold refusal says uncounted enough = elim (law text refusal s says) [
    | inl e ↦ uncounted e
    | inr e ↦ enough e
  ]

  sound_only : (refusal : Refusal) → FlowTextCause text refusal → refusal ≡ Memory
  sound_only (Source fault) c = absurd (untold (unfolded.Source fault) c (λ e. absurd (cc)) (λ e. absurd (cc)))
  sound_only (Printed place) c = absurd (untold (unfolded.Printed place) c (λ e. absurd (cc)) (λ e. absurd (cc)))
  sound_only (Meaning line) (inl m) = absurd (untold (unfolded.Meaning m.fault) m.says (λ e. absurd (cc)) (λ e. absurd (cc)))
  sound_only (Meaning line) (inr u) =
      absurd (untold (unfolded.Unwritten (record { 0 = u.array }) u.access u.p u.instance) u.says (λ e. absurd (cc)) (λ e. absurd (cc)))
  sound_only Memory c = refl
  sound_only _ c = absurd c

  module _ (source : List ℕ) (before now : FolderState) (given : IsGiven before.held source text) (none : ¬ (Rose before.faults now.faults)) where
    held_only : (refusal : Refusal) → FlowRefused refusal before now source → refusal ≡ Memory
    held_only refusal r = sound_only refusal (subst (λ t. FlowTextCause t refusal) (same_text before.held source text r.texts.source_text given.holds r.texts.source_held) r.cause)

    flow_only : (refusal : Refusal) → FlowCause refusal source before now → refusal ≡ Memory
    flow_only (Unread operand.Source why) c = absurd (not_unread why source text before now given none c.unread)
    flow_only Memory c = refl
    flow_only _ c = held_only _ c

pub flow_ends : SoundIsNotRefused → FlowEnds
flow_ends law source before now status text served none given s =
    ends (Flow source) before now status (runs_of (Flow source) before now status served) none (flow_only law text s source before.folder now.folder given none.folder)

-- ---- `replay`

module _ (law : ValidIsNotRefused) (text order shown : List ℕ) (v : IsValid text order shown) where
  valid_only : (refusal : Refusal) → ReplayTextCause text order shown refusal → refusal ≡ Memory
  valid_only (Source fault) c = let e = law text order shown (unreplayed.Source fault) v c in absurd (cc)
  valid_only (Printed place) c = let e = law text order shown (unreplayed.Printed place) v c in absurd (cc)
  valid_only (Schedule line) c = let e = law text order shown (unreplayed.Schedule c.fault) v c.of in absurd (cc)
  valid_only (Meaning line) c = let e = law text order shown (unreplayed.IteratorRange c.0.statement c.0.loop) v (c.0.says, c.1) in absurd (cc)
  valid_only (Certificate fault) c = let e = law text order shown (unreplayed.Certificate fault) v c in absurd (cc)
  valid_only (Check fault) c = let e = law text order shown (unreplayed.Check fault) v c in absurd (cc)
  valid_only Memory c = refl
  valid_only _ c = absurd c

  module _ (source schedule certificate : List ℕ) (before now : FolderState) (given : IsGiven before.held source text) (given_order : IsGiven before.held schedule order) (given_shown : IsGiven before.held certificate shown)
      (none : ¬ (Rose before.faults now.faults)) where
    all_only : (refusal : Refusal) → ReplayRefused refusal before now source schedule certificate → refusal ≡ Memory
    all_only refusal r =
        let a : r.texts.source_text ≡ text = same_text before.held source text r.texts.source_text given.holds r.texts.source_held in
        let b : r.texts.schedule_text ≡ order = same_text before.held schedule order r.texts.schedule_text given_order.holds r.texts.schedule_held in
        let c : r.texts.certificate_text ≡ shown = same_text before.held certificate shown r.texts.certificate_text given_shown.holds r.texts.certificate_held in
        valid_only refusal
        (subst (λ t. ReplayTextCause t order shown refusal) a
        (subst (λ t. ReplayTextCause r.texts.source_text t shown refusal) b (subst (λ t. ReplayTextCause r.texts.source_text r.texts.schedule_text t refusal) c r.cause)))

    replay_only : (refusal : Refusal) → ReplayCause refusal source schedule certificate before now → refusal ≡ Memory
    replay_only (Unread operand.Source why) c = absurd (not_unread why source text before now given none c.unread)
    replay_only (Unread operand.Schedule why) c = absurd (not_unread why schedule order before now given_order none c.unread)
    replay_only (Unread operand.Certificate why) c = absurd (not_unread why certificate shown before now given_shown none c.unread)
    replay_only Memory c = refl
    replay_only _ c = all_only _ c

pub replay_ends : ValidIsNotRefused → ReplayEnds
replay_ends law source schedule certificate before now status text order shown served none given given_order given_shown v =
    let command = Replay source schedule certificate in
    ends command before now status (runs_of command before now status served) none
    (replay_only law text order shown v source schedule certificate before.folder now.folder given given_order given_shown none.folder)

-- ---- The certificate that `fold` leaves

pub certificates_are_valid : CertificatesAreValid
certificates_are_valid source schedule settings file before now text order served given given_order =
    let command = Fold source (Some schedule) settings (Some file) in
    let w : Written command before now = (runs_of command before now 0 served).done refl in
    let p : FoldPromises source (Some schedule) settings (Some file) before.folder now.folder w.makes.certificate w.makes.text w.makes.report = w.makes.promised in
    let made : CertifiedWithin p.texts.source_text p.texts.schedule_text settings w.makes.certificate w.makes.text w.makes.report = p.makes in
    let same : p.texts.source_text ≡ text = same_text before.folder.held source text p.texts.source_text given.holds p.texts.source_held in
    let same_order : p.texts.schedule_text ≡ Some order = same_any before.folder.held (Some schedule) (Some order) p.texts.schedule_text given_order p.texts.schedule_held in
    let certified : FoldsCertified (answers_of settings.cost) text (Some order) made.left w.makes.text w.makes.report w.makes.certificate =
    subst (λ t. FoldsCertified (answers_of settings.cost) t (Some order) made.left w.makes.text w.makes.report w.makes.certificate) same
    (subst (λ o. FoldsCertified (answers_of settings.cost) p.texts.source_text o made.left w.makes.text w.makes.report w.makes.certificate) same_order made.folds_to) in
    (w.makes.certificate, (w.filed, certified_is_valid (answers_of settings.cost) text order made.left w.makes.text w.makes.report w.makes.certificate certified))

-- ---- What is written keeps the outputs

kept : (text source_text : List ℕ) (ordered : List ℤ → Order) (place : List ℤ → Places) → CompilesText Reads ReadsWide text source_text ordered place → KeepsOutputs text source_text
kept text source_text ordered place c = record {
  source = c.source;
  source_reads = c.source_reads;
  target = c.target;
  target_reads = c.target_reads;
  name = c.compiles.name;
  parameters = c.compiles.parameters;
  context = c.compiles.context;
  runs = λ p store fits. end_alike p store (c.compiles.runs p store fits);
}
  where
    end_alike : (p : List ℤ) (store : Store) → RunsAs c.target c.source (ordered p) (place p) p store → EndAlike c.target c.source p store
    end_alike p store r = record {
      target_last = r.follows.target_end;
      target_ends = r.follows.target_ends;
      source_last = r.follows.source_end;
      source_ends = r.follows.source_ends;
      same_outputs = r.same_outputs;
    }

-- what was written keeps the outputs of each text that is the source's
abbrev KeptOf : (before now : Outside) → (source_text : List ℕ) → Type 0
KeptOf before now source_text = (text : List ℕ) × ((now.out.taken ≡ grown before.out.taken text) × KeepsOutputs text source_text)

fold_kept : (source source_text : List ℕ) (schedule : Option (List ℕ)) (settings : Settings) (file : Option (List ℕ)) (before now : Outside) (w : Written (Fold source schedule settings file) before now)
    → w.makes.promised.texts.source_text ≡ source_text → KeptOf before now source_text
fold_kept source source_text schedule settings file before now w same =
    let p : FoldPromises source schedule settings file before.folder now.folder w.makes.certificate w.makes.text w.makes.report = w.makes.promised in
    let m = made_of file p.texts.source_text p.texts.schedule_text settings w.makes.certificate w.makes.text w.makes.report p.makes in
    let r = m.1.1.folds_to in
    (w.makes.text, (w.out, subst (KeepsOutputs w.makes.text) same (kept w.makes.text p.texts.source_text (in_target_order r.plan.schedule) (place r.folds) r.compiles)))

replay_kept : (source source_text schedule certificate : List ℕ) (before now : Outside) (w : Written (Replay source schedule certificate) before now)
    → w.makes.promised.texts.source_text ≡ source_text → KeptOf before now source_text
replay_kept source source_text schedule certificate before now w same =
    let p : ReplayPromises source schedule certificate before.folder now.folder w.makes.text w.makes.report = w.makes.promised in
    let r = p.replays_to in
    (w.makes.text, (w.out, subst (KeepsOutputs w.makes.text) same (kept w.makes.text p.texts.source_text (in_target_order r.plan.schedule) (place r.folds) r.compiles)))

pub outputs_are_kept : OutputsAreKept
outputs_are_kept (Fold name its_schedule settings file) source schedule before now source_text is served held =
    let w : Written (Fold name its_schedule settings file) before now = (runs_of (Fold name its_schedule settings file) before now 0 served).done refl in
    let t = w.makes.promised.texts in
    fold_kept name source_text its_schedule settings file before now w (same_text before.folder.held name source_text t.source_text (ap (held_under before.folder.held) is.0 ∙ held) t.source_held)
outputs_are_kept (Replay name its_schedule certificate) source schedule before now source_text is served held =
    let w : Written (Replay name its_schedule certificate) before now = (runs_of (Replay name its_schedule certificate) before now 0 served).done refl in
    let t = w.makes.promised.texts in
    replay_kept name source_text its_schedule certificate before now w (same_text before.folder.held name source_text t.source_text (ap (held_under before.folder.held) is.0 ∙ held) t.source_held)
outputs_are_kept (Run name feed limit) source schedule before now source_text is served held = absurd is
outputs_are_kept (Flow name) source schedule before now source_text is served held = absurd is
outputs_are_kept (Big stages) source schedule before now source_text is served held = absurd is

-- the first read of a call answered one text
abbrev text_of : Result (List ℕ) ReadFault → List ℕ
text_of (Ok text) = text
text_of (Err fault) = []

abbrev first_text : List Read → List ℕ
first_text [] = []
first_text (first ∷ others) = text_of first.1

one_read : (before now : FolderState) (name other text source_text : List ℕ) (more others : List Read) → IsRead ((name, Ok text) ∷ more) before now → IsRead ((other, Ok source_text) ∷ others) before now → text ≡ source_text
one_read before now name other text source_text more others read given =
    ap first_text (append_cancel_left before.reads ((name, Ok text) ∷ more) ((other, Ok source_text) ∷ others) (sym read ∙ given))

pub outputs_are_kept_as_read : OutputsAreKeptAsRead
outputs_are_kept_as_read (Fold name its_schedule settings file) source schedule before now source_text others is served read =
    let w : Written (Fold name its_schedule settings file) before now = (runs_of (Fold name its_schedule settings file) before now 0 served).done refl in
    let t = w.makes.promised.texts in
    fold_kept name source_text its_schedule settings file before now w (one_read before.folder now.folder name source t.source_text source_text (answered_any its_schedule t.schedule_text) others t.reads read)
outputs_are_kept_as_read (Replay name its_schedule certificate) source schedule before now source_text others is served read =
    let w : Written (Replay name its_schedule certificate) before now = (runs_of (Replay name its_schedule certificate) before now 0 served).done refl in
    let t = w.makes.promised.texts in
    replay_kept name source_text its_schedule certificate before now w
    (one_read before.folder now.folder name source t.source_text source_text ((its_schedule, Ok t.schedule_text) ∷ (certificate, Ok t.certificate_text) ∷ []) others t.reads read)
outputs_are_kept_as_read (Run name feed limit) source schedule before now source_text others is served read = absurd is
outputs_are_kept_as_read (Flow name) source schedule before now source_text others is served read = absurd is
outputs_are_kept_as_read (Big stages) source schedule before now source_text others is served read = absurd is

-- ---- Its stores are the source's, in their order and at their places

made_stores : (Answers : List ℕ → ℕ → Type 0) (source_text text report : List ℕ) (order : Option (List ℕ)) (budget : Account) → FoldsTo Answers source_text order budget text report → KeepsStores text report source_text order
made_stores Answers source_text text report order budget r = record {
  source = r.compiles.source;
  source_reads = r.compiles.source_reads;
  target = r.compiles.target;
  target_reads = r.compiles.target_reads;
  plan = r.plan;
  planned = r.planned;
  folds = r.folds;
  choices = r.choices;
  loose = r.scanned.loose.items;
  shown = r.told;
  runs = λ p store fits. (r.compiles.compiles.runs p store fits).follows;
}

replayed_stores : (source_text schedule_text certificate_text text report : List ℕ) → ReplaysTo source_text schedule_text certificate_text text report → KeepsStores text report source_text (Some schedule_text)
replayed_stores source_text schedule_text certificate_text text report r = record {
  source = r.compiles.source;
  source_reads = r.compiles.source_reads;
  target = r.compiles.target;
  target_reads = r.compiles.target_reads;
  plan = r.plan;
  planned = r.planned;
  folds = r.folds;
  choices = [];
  loose = r.scanned.loose.items;
  shown = r.told;
  runs = λ p store fits. (r.compiles.compiles.runs p store fits).follows;
}

abbrev Stored : (before now : Outside) (source_text : List ℕ) (order : Option (List ℕ)) → Type 0
Stored before now source_text order =
    (text : List ℕ) × ((report : List ℕ) × ((now.out.taken ≡ grown before.out.taken text) × ((now.err.taken ≡ grown before.err.taken report) × KeepsStores text report source_text order)))

fold_stores : (source source_text : List ℕ) (schedule order : Option (List ℕ)) (settings : Settings) (file : Option (List ℕ)) (before now : Outside) → IsGiven before.folder.held source source_text
    → IsGivenAny before.folder.held schedule order → Written (Fold source schedule settings file) before now → Stored before now source_text order
fold_stores source source_text schedule order settings file before now given given_too w =
    let p : FoldPromises source schedule settings file before.folder now.folder w.makes.certificate w.makes.text w.makes.report = w.makes.promised in
    let m = made_of file p.texts.source_text p.texts.schedule_text settings w.makes.certificate w.makes.text w.makes.report p.makes in
    let r = m.1.1 in
    let same : p.texts.source_text ≡ source_text = same_text before.folder.held source source_text p.texts.source_text given.holds p.texts.source_held in
    let same_too : p.texts.schedule_text ≡ order = same_any before.folder.held schedule order p.texts.schedule_text given_too p.texts.schedule_held in
    let kept : KeepsStores w.makes.text w.makes.report p.texts.source_text p.texts.schedule_text =
    made_stores (answers_of settings.cost) p.texts.source_text w.makes.text w.makes.report p.texts.schedule_text r.account r.folds_to in
    (w.makes.text, (w.makes.report, (w.out, (w.err, subst (λ t. KeepsStores w.makes.text w.makes.report t order) same (subst (KeepsStores w.makes.text w.makes.report p.texts.source_text) same_too kept)))))

replay_stores : (source source_text schedule certificate : List ℕ) (order : Option (List ℕ)) (before now : Outside) → IsGiven before.folder.held source source_text
    → IsGivenAny before.folder.held (Some schedule) order → Written (Replay source schedule certificate) before now → Stored before now source_text order
replay_stores source source_text schedule certificate order before now given given_too w =
    let p : ReplayPromises source schedule certificate before.folder now.folder w.makes.text w.makes.report = w.makes.promised in
    let same : p.texts.source_text ≡ source_text = same_text before.folder.held source source_text p.texts.source_text given.holds p.texts.source_held in
    let same_too : Some p.texts.schedule_text ≡ order = same_any before.folder.held (Some schedule) order (Some p.texts.schedule_text) given_too p.texts.schedule_held in
    let kept : KeepsStores w.makes.text w.makes.report p.texts.source_text (Some p.texts.schedule_text) =
    replayed_stores p.texts.source_text p.texts.schedule_text p.texts.certificate_text w.makes.text w.makes.report p.replays_to in
    (w.makes.text, (w.makes.report, (w.out, (w.err, subst (λ t. KeepsStores w.makes.text w.makes.report t order) same (subst (KeepsStores w.makes.text w.makes.report p.texts.source_text) same_too kept)))))

pub stores_follow : StoresFollow
stores_follow (Fold name its_schedule settings file) source schedule before now source_text order is served given given_too =
    fold_stores name source_text its_schedule order settings file before now (subst (λ n. IsGiven before.folder.held n source_text) (sym is.0) given)
    (subst (λ n. IsGivenAny before.folder.held n order) (sym is.1) given_too) ((runs_of (Fold name its_schedule settings file) before now 0 served).done refl)
stores_follow (Replay name its_schedule certificate) source schedule before now source_text order is served given given_too =
    replay_stores name source_text its_schedule certificate order before now (subst (λ n. IsGiven before.folder.held n source_text) (sym is.0) given)
    (subst (λ n. IsGivenAny before.folder.held n order) (sym is.1) given_too) ((runs_of (Replay name its_schedule certificate) before now 0 served).done refl)
stores_follow (Run name feed limit) source schedule before now source_text order is served given given_too = absurd is
stores_follow (Flow name) source schedule before now source_text order is served given given_too = absurd is
stores_follow (Big stages) source schedule before now source_text order is served given given_too = absurd is
