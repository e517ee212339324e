-- What is promised and refused once the files of a command are read.
use Rattle.std.proofs.Common.{◌≡◌, ◌∙◌, ◌≤◌, ◌++◌, ℕ, List, [], ◌∷◌, length, Option, None, Some, MatchOption, Result, Ok, Err, IfOk, IfErr, refl, ap, sym, subst, append_assoc, inl, inr}
use Rattle.std.proofs.lemmas.List.{append-nil}
use Rattle.affc_io.specs.Count.{Rose}
use Rattle.affc_io.specs.Files.{Holds, IsLong, NotHeld, TooLong}
use Rattle.affc_io.specs.Reads.{Read}
use Rattle.affc_io.specs.State.{Files, FolderState, FolderKeeps}
use Rattle.affc_io.specs.declared.folder.ReadFault.{ReadFault}
use Rattle.affc_io.specs.declared.folder.ReadFault.TheVariants as read
use Rattle.affc_io.specs.declared.folder.TheConstants.{LONGEST_READ}
use Rattle.affc_driver.specs.Flows.{FlowsTo}
use Rattle.affc_replay.specs.Replays.{ReplaysTo}
use Rattle.affc_cli.specs.Budgets.{FoldMakes}
use Rattle.affc_cli.specs.Outside.{IsRead, AreInOrder, IsReadInOrder, answered}
use Rattle.affc_cli.specs.Promise.{FoldPromises, ReplayPromises, RunPromises, FlowPromises}
use Rattle.affc_cli.specs.Refusal.{IsUnread, AreHeld, IsFirstUnread, TextCause, FoldTexts, FoldCause, FlowText, FlowTextCause, FlowCause, RunTexts, RunCause, ReplayTexts, ReplayCause}
use Rattle.affc_cli.specs.Replay.{ReplayTextCause}
use Rattle.affc_cli.specs.Run.{RunsTo, RunTextCause}
use Rattle.affc_cli.specs.Telling.{IsReadOnce, UnheldCause, unread_as}
use Rattle.affc_cli.specs.declared.pieces.Pieces.{Pieces}
use Rattle.affc_lines.proofs.Telling.{rose_later}
use Rattle.affc_lines.specs.declared.refusal.Operand.{Operand}
use Rattle.affc_lines.specs.declared.refusal.Operand.TheVariants as operand
use Rattle.affc_lines.specs.declared.refusal.Refusal.{Refusal}
use Rattle.affc_lines.specs.declared.refusal.Refusal.TheVariants.{Unread, Memory}
use Rattle.affc_lines.specs.declared.refusal.UnreadWhy.{UnreadWhy}
use Rattle.affc_lines.specs.declared.refusal.UnreadWhy.TheVariants.{Unreadable, Long}
use Rattle.affc_words.specs.declared.words.Settings.{Settings}

-- ---- Reads one after the other

pub read_both : (reads more : List Read) (before mid now : FolderState) → IsRead reads before mid → IsRead more mid now → IsRead (reads ++ more) before now
read_both reads more before mid now first second = second ∙ ap (λ l. l ++ more) first ∙ append_assoc before.reads reads more

pub nothing_read : (s : FolderState) → IsRead [] s s
nothing_read s = sym (append-nil s.reads)

pub none_in_order : (names : List (List ℕ)) (s : FolderState) → IsReadInOrder names s s
none_in_order names s = ([], (tt, nothing_read s))

one_in_order : (name : List ℕ) (names : List (List ℕ)) (answer : Result (List ℕ) ReadFault) → AreInOrder (name ∷ names) ((name, answer) ∷ [])
one_in_order name names (Ok text) = (refl, tt)
one_in_order name names (Err fault) = (refl, refl)

pub once_in_order : (name : List ℕ) (names : List (List ℕ)) (before now : FolderState) → IsReadOnce name before now → IsReadInOrder (name ∷ names) before now
once_in_order name names before now once = ((name, once.0) ∷ [], (one_in_order name names once.0, once.1))

-- the other names follow one that answered
pub in_order_behind : (name text : List ℕ) (names : List (List ℕ)) (before mid now : FolderState) → IsRead ((name, Ok text) ∷ []) before mid → IsReadInOrder names mid now
    → IsReadInOrder (name ∷ names) before now
in_order_behind name text names before mid now first others =
    ((name, Ok text) ∷ others.0, ((refl, others.1.0), read_both ((name, Ok text) ∷ []) others.0 before mid now first others.1.1))

-- the text that answered, by another name
pub same_read : (name text other : List ℕ) (before now : FolderState) → other ≡ text → IsRead ((name, Ok text) ∷ []) before now → IsRead ((name, Ok other) ∷ []) before now
same_read name text other before now is read = subst (λ t. IsRead ((name, Ok t) ∷ []) before now) (sym is) read

-- ---- A file that isn't read

as_before : (before mid : Option Files) (P : Files → Type 0) (rose risen : Type 0) → mid ≡ before → (rose → risen) → MatchOption mid rose P → MatchOption before risen P
as_before before mid P rose risen same later m = of before (subst (λ o. MatchOption o rose P) same m)
  where
    of : (held : Option Files) → MatchOption held rose P → MatchOption held risen P
    of None m = later m
    of (Some files) m = m

unread_later : (why : UnreadWhy) (name : List ℕ) (before mid now : FolderState) → FolderKeeps before mid → IsUnread why name mid now → IsUnread why name before now
unread_later Unreadable name before mid now kept (inl rose) = inl (rose_later before.faults mid.faults now.faults kept.faults rose)
unread_later Unreadable name before mid now kept (inr missing) =
    inr (as_before before.held mid.held (λ files. files name ≡ None) (Rose mid.faults now.faults) (Rose before.faults now.faults) kept.names (rose_later before.faults mid.faults now.faults kept.faults) missing)
unread_later Long name before mid now kept long =
    as_before before.held mid.held (λ files. IsLong (files name)) (Rose mid.faults now.faults) (Rose before.faults now.faults) kept.names (rose_later before.faults mid.faults now.faults kept.faults) long

-- a file whose read answered a fault
pub unread_told : (file : Operand) (name : List ℕ) (before now : FolderState) (fault : ReadFault) → IsRead ((name, Err fault) ∷ []) before now
    → (fault ≡ read.Failed → Rose before.faults now.faults) → (fault ≡ read.Missing → NotHeld name before now) → (fault ≡ read.Long → TooLong name before now)
    → UnheldCause file (unread_as file fault) [] name before now
unread_told file name before now read.Failed answered_so failed missing long = (refl, record { texts = []; held = tt; fault = read.Failed; reads = answered_so; is_why = inl refl; unread = inl (failed refl) })
unread_told file name before now read.Missing answered_so failed missing long = (refl, record { texts = []; held = tt; fault = read.Missing; reads = answered_so; is_why = inr refl; unread = inr (missing refl) })
unread_told file name before now read.Long answered_so failed missing long = (refl, record { texts = []; held = tt; fault = read.Long; reads = answered_so; is_why = refl; unread = long refl })
unread_told file name before now read.Memory answered_so failed missing long = tt

module _ (first text : List ℕ) (before mid now : FolderState) (kept : FolderKeeps before mid) (held : Holds before.held first text) (short : length text ≤ LONGEST_READ) (read : IsRead ((first, Ok text) ∷ []) before mid) where
  unread_behind : (why : UnreadWhy) (front : List (List ℕ)) (name : List ℕ) → IsFirstUnread why front name mid now → IsFirstUnread why (first ∷ front) name before now
  unread_behind why front name u = record {
    texts = text ∷ u.texts;
    held = (held, (short, subst (λ h. AreHeld h front u.texts) kept.names u.held));
    fault = u.fault;
    reads = read_both ((first, Ok text) ∷ []) (answered front u.texts ++ (name, Err u.fault) ∷ []) before mid now read u.reads;
    is_why = u.is_why;
    unread = unread_later why name before mid now kept u.unread;
  }

  -- a file behind one that answered
  pub unheld_behind : (file : Operand) (front : List (List ℕ)) (name : List ℕ) (refusal : Refusal) → UnheldCause file refusal front name mid now → UnheldCause file refusal (first ∷ front) name before now
  unheld_behind file front name (Unread which why) cause = (cause.0, unread_behind why front name cause.1)
  unheld_behind file front name Memory cause = tt
  unheld_behind file front name _ cause = absurd cause

-- what holds of each refusal of this file
pub unheld : (file : Operand) (front : List (List ℕ)) (name : List ℕ) (before now : FolderState) (P : Refusal → Type 0) → ((why : UnreadWhy) → IsFirstUnread why front name before now → P (Unread file why)) → P Memory
    → (refusal : Refusal) → UnheldCause file refusal front name before now → P refusal
unheld file front name before now P told short (Unread which why) cause = subst (λ f. P (Unread f why)) (sym cause.0) (told why cause.1)
unheld file front name before now P told short Memory cause = short
unheld file front name before now P told short _ cause = absurd cause

-- ---- The source and the data text

abbrev pub texts : (before mid now : FolderState) (source feed s s' f f' : List ℕ) → Holds before.held source s → IsRead ((source, Ok s) ∷ []) before mid → s' ≡ s → mid.held ≡ before.held
    → Holds mid.held feed f → IsRead ((feed, Ok f) ∷ []) mid now → f' ≡ f → RunTexts before now source feed
texts before mid now source feed s s' f f' has_source read is same has_feed read_too is' = record {
  source_text = s';
  source_held = subst (Holds before.held source) (sym is) has_source;
  feed_text = f';
  feed_held = subst (Holds before.held feed) (sym is') (subst (λ h. Holds h feed f) same has_feed);
  reads = read_both ((source, Ok s') ∷ []) ((feed, Ok f') ∷ []) before mid now (same_read source s s' before mid is read) (same_read feed f f' mid now is' read_too);
}

pub run_promised : (before now : FolderState) (source feed : List ℕ) (limit : ℕ) (t : RunTexts before now source feed) (made : Result Pieces Refusal)
    → IfOk made (λ m. RunsTo t.source_text t.feed_text limit m.text.items) → IfOk made (λ m. m.report.items ≡ []) → IfOk made (λ m. RunPromises source feed limit before now m.text.items m.report.items)
run_promised before now source feed limit t (Ok m) runs none = record { texts = t; runs_to = runs; no_report = none }
run_promised before now source feed limit t (Err refusal) runs none = tt

caused : (source feed : List ℕ) (limit : ℕ) (before now : FolderState) (t : RunTexts before now source feed) (refusal : Refusal)
    → RunTextCause t.source_text t.feed_text limit refusal → RunCause refusal source feed limit before now
caused source feed limit before now t (Unread operand.Source why) cause = absurd cause
caused source feed limit before now t (Unread operand.Data why) cause = absurd cause
caused source feed limit before now t Memory cause = tt
caused source feed limit before now t _ cause = record { texts = t; cause = cause }

pub run_caused : (source feed : List ℕ) (limit : ℕ) (before now : FolderState) (t : RunTexts before now source feed) (made : Result Pieces Refusal)
    → IfErr made (RunTextCause t.source_text t.feed_text limit) → IfErr made (λ refusal. RunCause refusal source feed limit before now)
run_caused source feed limit before now t (Ok text) cause = tt
run_caused source feed limit before now t (Err refusal) cause = caused source feed limit before now t refusal cause

-- ---- The source, and the schedule where there is one

abbrev pub source_alone : (before now : FolderState) (source s s' : List ℕ) → Holds before.held source s → IsRead ((source, Ok s) ∷ []) before now → s' ≡ s → FoldTexts before now source None
source_alone before now source s s' has read is = record {
  source_text = s';
  source_held = subst (Holds before.held source) (sym is) has;
  schedule_text = None;
  schedule_held = refl;
  reads = same_read source s s' before now is read;
}

abbrev pub with_schedule : (before mid now : FolderState) (source schedule s s' f f' : List ℕ) → Holds before.held source s → IsRead ((source, Ok s) ∷ []) before mid → s' ≡ s → mid.held ≡ before.held
    → Holds mid.held schedule f → IsRead ((schedule, Ok f) ∷ []) mid now → f' ≡ f → FoldTexts before now source (Some schedule)
with_schedule before mid now source schedule s s' f f' has_source read is same has_schedule read_too is' = record {
  source_text = s';
  source_held = subst (Holds before.held source) (sym is) has_source;
  schedule_text = Some f';
  schedule_held = subst (Holds before.held schedule) (sym is') (subst (λ h. Holds h schedule f) same has_schedule);
  reads = read_both ((source, Ok s') ∷ []) ((schedule, Ok f') ∷ []) before mid now (same_read source s s' before mid is read) (same_read schedule f f' mid now is' read_too);
}

pub fold_promised : (before now : FolderState) (source : List ℕ) (schedule : Option (List ℕ)) (settings : Settings) (file : Option (List ℕ)) (t : FoldTexts before now source schedule) (made : Result Pieces Refusal)
    → IfOk made (λ m. FoldMakes file t.source_text t.schedule_text settings m.certificate.items m.text.items m.report.items)
    → IfOk made (λ m. FoldPromises source schedule settings file before now m.certificate.items m.text.items m.report.items)
fold_promised before now source schedule settings file t (Ok m) makes = record { texts = t; makes = makes }
fold_promised before now source schedule settings file t (Err refusal) makes = tt

refused : (source : List ℕ) (schedule : Option (List ℕ)) (settings : Settings) (before now : FolderState) (t : FoldTexts before now source schedule) (refusal : Refusal)
    → TextCause t.source_text t.schedule_text settings refusal → FoldCause refusal source schedule settings before now
refused source schedule settings before now t (Unread operand.Source why) cause = absurd cause
refused source schedule settings before now t (Unread operand.Schedule why) cause = absurd cause
refused source schedule settings before now t Memory cause = tt
refused source schedule settings before now t _ cause = record { texts = t; cause = cause }

pub fold_refused : (source : List ℕ) (schedule : Option (List ℕ)) (settings : Settings) (before now : FolderState) (t : FoldTexts before now source schedule) (made : Result Pieces Refusal)
    → IfErr made (TextCause t.source_text t.schedule_text settings) → IfErr made (λ refusal. FoldCause refusal source schedule settings before now)
fold_refused source schedule settings before now t (Ok text) cause = tt
fold_refused source schedule settings before now t (Err refusal) cause = refused source schedule settings before now t refusal cause

-- ---- The source whose trees are told

abbrev pub the_source : (before now : FolderState) (source s s' : List ℕ) → Holds before.held source s → IsRead ((source, Ok s) ∷ []) before now → s' ≡ s → FlowText before now source
the_source before now source s s' has read is = record { source_text = s'; source_held = subst (Holds before.held source) (sym is) has; reads = same_read source s s' before now is read }

pub flow_promised : (before now : FolderState) (source : List ℕ) (t : FlowText before now source) (made : Result Pieces Refusal)
    → IfOk made (λ m. FlowsTo t.source_text m.text.items) → IfOk made (λ m. m.report.items ≡ []) → IfOk made (λ m. FlowPromises source before now m.text.items m.report.items)
flow_promised before now source t (Ok m) flows none = record { texts = t; flows_to = flows; no_report = none }
flow_promised before now source t (Err refusal) flows none = tt

untold : (source : List ℕ) (before now : FolderState) (t : FlowText before now source) (refusal : Refusal) → FlowTextCause t.source_text refusal → FlowCause refusal source before now
untold source before now t (Unread operand.Source why) cause = absurd cause
untold source before now t Memory cause = tt
untold source before now t _ cause = record { texts = t; cause = cause }

pub flow_refused : (source : List ℕ) (before now : FolderState) (t : FlowText before now source) (made : Result Pieces Refusal)
    → IfErr made (FlowTextCause t.source_text) → IfErr made (λ refusal. FlowCause refusal source before now)
flow_refused source before now t (Ok m) cause = tt
flow_refused source before now t (Err refusal) cause = untold source before now t refusal cause

-- ---- The source, the schedule and the certificate

abbrev pub replay_texts : (before mid later now : FolderState) (source schedule certificate s s' f f' c c' : List ℕ) → Holds before.held source s → IsRead ((source, Ok s) ∷ []) before mid → s' ≡ s → mid.held ≡ before.held
    → Holds mid.held schedule f → IsRead ((schedule, Ok f) ∷ []) mid later → f' ≡ f → later.held ≡ mid.held
    → Holds later.held certificate c → IsRead ((certificate, Ok c) ∷ []) later now → c' ≡ c → ReplayTexts before now source schedule certificate
replay_texts before mid later now source schedule certificate s s' f f' c c' has_source read is same has_schedule read' is' same' has_certificate read'' is'' = record {
  source_text = s';
  source_held = subst (Holds before.held source) (sym is) has_source;
  schedule_text = f';
  schedule_held = subst (Holds before.held schedule) (sym is') (subst (λ h. Holds h schedule f) same has_schedule);
  certificate_text = c';
  certificate_held = subst (Holds before.held certificate) (sym is'') (subst (λ h. Holds h certificate c) (same' ∙ same) has_certificate);
  reads = read_both ((source, Ok s') ∷ []) ((schedule, Ok f') ∷ (certificate, Ok c') ∷ []) before mid now (same_read source s s' before mid is read)
      (read_both ((schedule, Ok f') ∷ []) ((certificate, Ok c') ∷ []) mid later now (same_read schedule f f' mid later is' read') (same_read certificate c c' later now is'' read''));
}

pub replay_promised : (before now : FolderState) (source schedule certificate : List ℕ) (t : ReplayTexts before now source schedule certificate) (made : Result Pieces Refusal)
    → IfOk made (λ m. ReplaysTo t.source_text t.schedule_text t.certificate_text m.text.items m.report.items)
    → IfOk made (λ m. ReplayPromises source schedule certificate before now m.text.items m.report.items)
replay_promised before now source schedule certificate t (Ok m) replays = record { texts = t; replays_to = replays }
replay_promised before now source schedule certificate t (Err refusal) replays = tt

not_replayed : (source schedule certificate : List ℕ) (before now : FolderState) (t : ReplayTexts before now source schedule certificate) (refusal : Refusal)
    → ReplayTextCause t.source_text t.schedule_text t.certificate_text refusal → ReplayCause refusal source schedule certificate before now
not_replayed source schedule certificate before now t (Unread operand.Source why) cause = absurd cause
not_replayed source schedule certificate before now t (Unread operand.Schedule why) cause = absurd cause
not_replayed source schedule certificate before now t (Unread operand.Certificate why) cause = absurd cause
not_replayed source schedule certificate before now t Memory cause = tt
not_replayed source schedule certificate before now t _ cause = record { texts = t; cause = cause }

pub replay_refused : (source schedule certificate : List ℕ) (before now : FolderState) (t : ReplayTexts before now source schedule certificate) (made : Result Pieces Refusal)
    → IfErr made (ReplayTextCause t.source_text t.schedule_text t.certificate_text) → IfErr made (λ refusal. ReplayCause refusal source schedule certificate before now)
replay_refused source schedule certificate before now t (Ok m) cause = tt
replay_refused source schedule certificate before now t (Err refusal) cause = not_replayed source schedule certificate before now t refusal cause
