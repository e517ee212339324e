-- Status 3 tells the first file that wasn't read.
use Rattle.std.proofs.Common.{◌≡◌, ◌⊎◌, ◌++◌, ℕ, List, [], ◌∷◌, length, Option, None, Some, Ok, Err, codes, refl, sym, subst, ◌∙◌, inl, inr, arith}
use Rattle.std.proofs.lemmas.Bool.Decides.{eqb_tells}
use Rattle.std.proofs.lemmas.List.{append_cancel_left}
use Rattle.affc_io.specs.Reads.{Read}
use Rattle.affc_io.specs.State.{Files, FolderState}
use Rattle.affc_io.specs.declared.folder.ReadFault.{ReadFault}
use Rattle.affc_words.specs.Command.{Command, Fold, Replay, Run, Flow, Big}
use Rattle.affc_lines.specs.Lines.{status_of, unread_words}
use Rattle.affc_lines.specs.Told.{Told}
use Rattle.affc_lines.specs.declared.refusal.Operand.{Operand}
use Rattle.affc_lines.specs.declared.refusal.Operand.TheVariants as operand
use Rattle.affc_lines.specs.declared.refusal.Refusal.{Refusal}
use Rattle.affc_lines.specs.declared.refusal.Refusal.TheVariants.{Unread, Memory}
use Rattle.affc_lines.specs.declared.refusal.UnreadWhy.{UnreadWhy}
use Rattle.affc_cli.specs.Laws.{IsUnreadTold, UnreadIsFirst, UnreadIsTold}
use Rattle.affc_cli.specs.Outside.{Outside, IsRead}
use Rattle.affc_cli.specs.Promise.{Promises, Cause, Failed, names_of, refusal_line, IsRefused, Runs}
use Rattle.affc_cli.specs.Refusal.{AreHeld, IsFirstUnread, answered_any}
use Rattle.affc_cli.proofs.LawProofs.{runs_of}
use Rattle.affc_cli.proofs.ExampleProofs.{of_file}

-- ---- The first file that isn't read

held_alike : (held : Option Files) (names texts : List (List ℕ)) → AreHeld held names texts → length texts ≡ length names
held_alike held [] [] are = refl
held_alike held [] (text ∷ texts) are = absurd are
held_alike held (name ∷ names) [] are = absurd are
held_alike held (name ∷ names) (text ∷ texts) are = let n = held_alike held names texts are.1.1 in omega (arith, n)

module _ (before now : Outside) where
  told_behind : (front : List (List ℕ)) (name : List ℕ) (others : List (List ℕ)) (why : UnreadWhy) → IsFirstUnread why front name before.folder now.folder
      → Told before.err.taken before.err now.err (unread_words why ++ name ++ codes "\n") → IsUnreadTold (front ++ name ∷ others) before now
  told_behind front name others why u told = record {
    front = front;
    name = name;
    others = others;
    order = refl;
    texts = u.texts;
    each = held_alike before.folder.held front u.texts u.held;
    fault = u.fault;
    reads = u.reads;
    why = why;
    is_why = u.is_why;
    told = told;
  }

  unread_told : (command : Command) (file : Operand) (why : UnreadWhy) → Cause command (Unread file why) before.folder now.folder
      → Told before.err.taken before.err now.err (refusal_line command (Unread file why)) → IsUnreadTold (names_of command) before now
  unread_told (Fold source None settings file) operand.Source why cause told = told_behind [] source [] why cause told
  unread_told (Fold source None settings file) operand.Schedule why cause told = absurd cause
  unread_told (Fold source None settings file) operand.Data why cause told = absurd cause.cause
  unread_told (Fold source None settings file) operand.Certificate why cause told = absurd cause.cause
  unread_told (Fold source (Some schedule) settings file) operand.Source why cause told = told_behind [] source (schedule ∷ []) why cause told
  unread_told (Fold source (Some schedule) settings file) operand.Schedule why cause told = told_behind (source ∷ []) schedule [] why cause told
  unread_told (Fold source (Some schedule) settings file) operand.Data why cause told = absurd cause.cause
  unread_told (Fold source (Some schedule) settings file) operand.Certificate why cause told = absurd cause.cause
  unread_told (Replay source schedule certificate) operand.Source why cause told = told_behind [] source (schedule ∷ certificate ∷ []) why cause told
  unread_told (Replay source schedule certificate) operand.Schedule why cause told = told_behind (source ∷ []) schedule (certificate ∷ []) why cause told
  unread_told (Replay source schedule certificate) operand.Data why cause told = absurd cause.cause
  unread_told (Replay source schedule certificate) operand.Certificate why cause told = told_behind (source ∷ schedule ∷ []) certificate [] why cause told
  unread_told (Run source feed limit) operand.Source why cause told = told_behind [] source (feed ∷ []) why cause told
  unread_told (Run source feed limit) operand.Schedule why cause told = absurd cause.cause
  unread_told (Run source feed limit) operand.Data why cause told = told_behind (source ∷ []) feed [] why cause told
  unread_told (Run source feed limit) operand.Certificate why cause told = absurd cause.cause
  unread_told (Flow source) operand.Source why cause told = told_behind [] source [] why cause told
  unread_told (Flow source) operand.Schedule why cause told = absurd cause.cause
  unread_told (Flow source) operand.Data why cause told = absurd cause.cause
  unread_told (Flow source) operand.Certificate why cause told = absurd cause.cause
  unread_told (Big stages) file why cause told = absurd cause.1

pub unread_is_first : UnreadIsFirst
unread_is_first command before now served =
    let r : IsRefused command before now 3 = (runs_of command before now 3 served).refused (λ e. absurd (omega (arith, e))) (λ e. absurd (omega (arith, e))) (λ e. absurd (omega (arith, e))) in
    let o = of_file r.refusal r.is_status in
    unread_told before now command o.0 o.1.0 (subst (λ x. Cause command x before.folder now.folder) o.1.1 r.cause) (subst (λ x. Told before.err.taken before.err now.err (refusal_line command x)) o.1.1 r.told)

-- ---- Each read answered

-- these reads answered
abbrev AllAnswered : List Read → Type 0
AllAnswered [] = Unit {0}
AllAnswered (read ∷ reads) = ((text : List ℕ) × (read.1 ≡ Ok text)) × AllAnswered reads

-- the reads of the call answered
abbrev IsAllRead : FolderState → FolderState → Type 0
IsAllRead before now = (reads : List Read) × (AllAnswered reads × IsRead reads before now)

not_fault : (fault : ReadFault) (text : List ℕ) → Err fault ≡ Ok text → ⊥
not_fault fault text e = cc

not_all : (reads : List Read) (name : List ℕ) (fault : ReadFault) → AllAnswered (reads ++ (name, Err fault) ∷ []) → ⊥
not_all [] name fault all = not_fault fault all.0.0 all.0.1
not_all (read ∷ reads) name fault all = not_all reads name fault all.1

last_answered : (before now : FolderState) (reads : List Read) (name : List ℕ) (fault : ReadFault) → IsAllRead before now → IsRead (reads ++ (name, Err fault) ∷ []) before now → ⊥
last_answered before now reads name fault all read =
    let same : all.0 ≡ reads ++ (name, Err fault) ∷ [] = append_cancel_left before.reads all.0 (reads ++ (name, Err fault) ∷ []) (sym all.1.1 ∙ read) in
    not_all reads name fault (subst AllAnswered same all.1.0)

any_answered : (name text : Option (List ℕ)) → AllAnswered (answered_any name text)
any_answered None text = tt
any_answered (Some name) None = tt
any_answered (Some name) (Some text) = ((text, refl), tt)

promised_read : (command : Command) (before now : FolderState) (certificate text report : List ℕ) → Promises command before now certificate text report → IsAllRead before now
promised_read (Fold source schedule settings file) before now certificate text report p =
    ((source, Ok p.texts.source_text) ∷ answered_any schedule p.texts.schedule_text, (((p.texts.source_text, refl), any_answered schedule p.texts.schedule_text), p.texts.reads))
promised_read (Replay source schedule shown) before now certificate text report p = (
  (source, Ok p.texts.source_text) ∷ (schedule, Ok p.texts.schedule_text) ∷ (shown, Ok p.texts.certificate_text) ∷ [],
  (((p.texts.source_text, refl), ((p.texts.schedule_text, refl), ((p.texts.certificate_text, refl), tt))), p.texts.reads),
)
promised_read (Run source feed limit) before now certificate text report p =
    ((source, Ok p.texts.source_text) ∷ (feed, Ok p.texts.feed_text) ∷ [], (((p.texts.source_text, refl), ((p.texts.feed_text, refl), tt)), p.texts.reads))
promised_read (Flow source) before now certificate text report p = ((source, Ok p.texts.source_text) ∷ [], (((p.texts.source_text, refl), tt), p.texts.reads))
promised_read (Big stages) before now certificate text report p = ([], (tt, p.reads))

failed_read : (command : Command) (before now : Outside) → Failed command before now → IsAllRead before.folder now.folder
failed_read command before now (inl f) = let m = f.written.makes in promised_read command before.folder now.folder m.certificate m.text m.report m.promised
failed_read command before now (inr (inl f)) = let m = f.written.makes in promised_read command before.folder now.folder m.certificate m.text m.report m.promised
failed_read command before now (inr (inr f)) = let m = f.written.makes in promised_read command before.folder now.folder m.certificate m.text m.report m.promised

-- a refusal is of a file or for want of memory, or the reads of the call answered
refused_read : (command : Command) (refusal : Refusal) (before now : FolderState) → Cause command refusal before now → ((status_of refusal ≡ 3) ⊎ (status_of refusal ≡ 9)) ⊎ IsAllRead before now
refused_read (Fold source schedule settings file) (Unread operand.Source why) before now cause = inl (inl refl)
refused_read (Fold source schedule settings file) (Unread operand.Schedule why) before now cause = inl (inl refl)
refused_read (Fold source schedule settings file) Memory before now cause = inl (inr refl)
refused_read (Fold source schedule settings file) _ before now cause =
    let t = cause.texts in
    inr ((source, Ok t.source_text) ∷ answered_any schedule t.schedule_text, (((t.source_text, refl), any_answered schedule t.schedule_text), t.reads))
refused_read (Replay source schedule certificate) (Unread operand.Source why) before now cause = inl (inl refl)
refused_read (Replay source schedule certificate) (Unread operand.Schedule why) before now cause = inl (inl refl)
refused_read (Replay source schedule certificate) (Unread operand.Certificate why) before now cause = inl (inl refl)
refused_read (Replay source schedule certificate) Memory before now cause = inl (inr refl)
refused_read (Replay source schedule certificate) _ before now cause =
    let t = cause.texts in
    inr (
      (source, Ok t.source_text) ∷ (schedule, Ok t.schedule_text) ∷ (certificate, Ok t.certificate_text) ∷ [],
      (((t.source_text, refl), ((t.schedule_text, refl), ((t.certificate_text, refl), tt))), t.reads),
    )
refused_read (Run source feed limit) (Unread operand.Source why) before now cause = inl (inl refl)
refused_read (Run source feed limit) (Unread operand.Data why) before now cause = inl (inl refl)
refused_read (Run source feed limit) Memory before now cause = inl (inr refl)
refused_read (Run source feed limit) _ before now cause =
    let t = cause.texts in inr ((source, Ok t.source_text) ∷ (feed, Ok t.feed_text) ∷ [], (((t.source_text, refl), ((t.feed_text, refl), tt)), t.reads))
refused_read (Flow source) (Unread operand.Source why) before now cause = inl (inl refl)
refused_read (Flow source) Memory before now cause = inl (inr refl)
refused_read (Flow source) _ before now cause = let t = cause.texts in inr ((source, Ok t.source_text) ∷ [], (((t.source_text, refl), tt), t.reads))
refused_read (Big stages) refusal before now cause = inr ([], (tt, cause.0))

module _ (command : Command) (before now : Outside) (status : ℕ) (reads : List Read) (name : List ℕ) (fault : ReadFault) (read : IsRead (reads ++ (name, Err fault) ∷ []) before.folder now.folder) where
  refused_told : IsRefused command before now status → (status ≡ 3) ⊎ (status ≡ 9)
  refused_told r = elim (refused_read command r.refusal before.folder now.folder r.cause) [
    | inl (inl three) ↦ inl (r.is_status ∙ three)
    | inl (inr nine) ↦ inr (r.is_status ∙ nine)
    | inr all ↦ absurd (last_answered before.folder now.folder reads name fault all read)
  ]

  told : Runs command before now status → (status ≡ 3) ⊎ (status ≡ 9)
  told runs = elim (eqb_tells status 0) [
    | inl done ↦ (let m = (runs.done done.1).makes in absurd (last_answered before.folder now.folder reads name fault (promised_read command before.folder now.folder m.certificate m.text m.report m.promised) read))
    | inr undone ↦ elim (eqb_tells status 9) [
      | inl short ↦ inr short.1
      | inr enough ↦ elim (eqb_tells status 10) [
        | inl failed ↦ absurd (last_answered before.folder now.folder reads name fault (failed_read command before now (runs.failed failed.1)) read)
        | inr kept ↦ refused_told (runs.refused undone.1 enough.1 kept.1)
      ]
    ]
  ]

pub unread_is_told : UnreadIsTold
unread_is_told command before now status reads name fault served read = told command before now status reads name fault read (runs_of command before now status served)
