-- The examples of a folder of two files.
use Rattle.std.proofs.Common.{◌≡◌, ◌⊎◌, ◌++◌, ℕ, List, [], ◌∷◌, get_or, length, Option, Some, None, Result, Ok, Err, refl, sym, ap, subst, ◌∙◌, inl, inr, arith}
use Rattle.std.specs.Prelude.{codes}
use Rattle.std.specs.Fmt.{digits}
use Rattle.std.proofs.lemmas.Option.{none-some, same_Some}
use Rattle.affc_io.specs.Count.{Rose}
use Rattle.affc_io.specs.Examples.{a, b, c, two}
use Rattle.affc_io.specs.Files.{Holds, held_under}
use Rattle.affc_io.specs.Reads.{Read}
use Rattle.affc_io.specs.declared.folder.ReadFault.{ReadFault}
use Rattle.affc_io.specs.declared.folder.ReadFault.TheVariants as read
use Rattle.affc_weigh.specs.Costs.{least_power}
use Rattle.affc_driver.specs.Flows.{FlowsTo}
use Rattle.affc_replay.specs.Replays.{ReplaysTo}
use Rattle.affc_words.specs.Command.{Fold, Flow}
use Rattle.affc_lines.specs.Lines.{status_of, line_of}
use Rattle.affc_lines.specs.Told.{Told}
use Rattle.affc_lines.specs.declared.refusal.Operand.{Operand}
use Rattle.affc_lines.specs.declared.refusal.Operand.TheVariants as operand
use Rattle.affc_lines.specs.declared.refusal.Refusal.{Refusal}
use Rattle.affc_lines.specs.declared.refusal.Refusal.TheVariants.{Words, Unread, Source, Printed, Schedule, Meaning, Stuck, Illegal, Budget, Memory, Certificate, Check, Steps, Data}
use Rattle.affc_lines.specs.declared.refusal.UnreadWhy.{UnreadWhy}
use Rattle.affc_lines.specs.declared.refusal.UnreadWhy.TheVariants.{Unreadable, Long}
use Rattle.affc_cli.specs.Budgets.{FoldsWithin, CertifiedWithin}
use Rattle.affc_cli.specs.Big.{plain}
use Rattle.affc_cli.specs.Examples.{NoNameIsNoText, PromisedOfWhatWasHeld, WhoEndsWithWhat, FilesInOrder, ReadsStopAtTheFirst, RefusalsAreTold, UnreadIsToldBehind, CostsByName, EightStages, at, beside, start, sink, line, of_c}
use Rattle.affc_cli.specs.Outside.{Outside, answered}
use Rattle.affc_cli.specs.Promise.{IsRefused}
use Rattle.affc_cli.specs.Refusal.{HoldsAny, AreHeld, IsFirstUnread, FoldCause, fold_file, FlowCause}
use Rattle.affc_cli.specs.Run.{RunsTo}

as_long : (xs ys : List ℕ) → Some xs ≡ Some ys → length xs ≡ length ys
as_long xs ys e = ap length (same_Some xs ys e)

pub no_name_is_no_text : NoNameIsNoText
no_name_is_no_text = (
  refl,
  (λ e. none-some [] (sym e)),
  refl,
  (λ e. let n : 2 ≡ 1 = as_long (7 ∷ 8 ∷ []) (7 ∷ []) e in absurd (omega (arith, n))),
  (λ h. h),
  (λ h. h),
  λ e. none-some [] e,
)

-- what a and b held
held_a : (s : List ℕ) → Holds (Some two) a s → s ≡ 7 ∷ 8 ∷ []
held_a s h = sym (same_Some (7 ∷ 8 ∷ []) s h)

held_b : (s : List ℕ) → Holds (Some two) b s → s ≡ []
held_b s h = sym (same_Some [] s h)

pub promised_of_what_was_held : PromisedOfWhatWasHeld
promised_of_what_was_held now = (
  (λ m.
      let p = m.promised in
      let s = held_a p.texts.source_text p.texts.source_held in
      subst (λ t. (cost : ℕ) × FoldsWithin t None plain m.text m.report cost) s
      (subst (λ o. (cost : ℕ) × FoldsWithin p.texts.source_text o plain m.text m.report cost) p.texts.schedule_held p.makes)),
  (λ m. let p = m.promised in by_schedule m.certificate m.text m.report p.texts.source_text p.texts.schedule_text (held_a p.texts.source_text p.texts.source_held) p.texts.schedule_held p.makes),
  (λ m.
      let p = m.promised in
      subst (λ t. ReplaysTo t (7 ∷ 8 ∷ []) [] m.text m.report) (held_b p.texts.source_text p.texts.source_held)
      (subst (λ t. ReplaysTo p.texts.source_text t [] m.text m.report) (held_a p.texts.schedule_text p.texts.schedule_held)
      (subst (λ t. ReplaysTo p.texts.source_text p.texts.schedule_text t m.text m.report) (held_b p.texts.certificate_text p.texts.certificate_held) p.replays_to))),
  (λ m.
      let p = m.promised in
      subst (λ t. RunsTo t [] 3 m.text) (held_a p.texts.source_text p.texts.source_held)
      (subst (λ t. RunsTo p.texts.source_text t 3 m.text) (held_b p.texts.feed_text p.texts.feed_held) p.runs_to)),
  λ m. let p = m.promised in subst (λ t. FlowsTo t m.text) (held_a p.texts.source_text p.texts.source_held) p.flows_to,
)
  where
    by_schedule : (certificate text report s : List ℕ) (o : Option (List ℕ)) → s ≡ 7 ∷ 8 ∷ [] → HoldsAny (Some two) (Some b) o
        → CertifiedWithin s o plain certificate text report → CertifiedWithin (7 ∷ 8 ∷ []) (Some []) plain certificate text report
    by_schedule certificate text report s None e h k = absurd h
    by_schedule certificate text report s (Some o) e h k =
        subst (λ t. CertifiedWithin t (Some []) plain certificate text report) e (subst (λ t. CertifiedWithin s (Some t) plain certificate text report) (held_b o h) k)

pub who_ends_with_what : WhoEndsWithWhat
who_ends_with_what = (refl, refl, refl, refl, refl, refl, refl, refl, refl, refl, refl, refl, refl, refl, refl)

pub files_in_order : FilesInOrder
files_in_order = (refl, refl, refl, refl, refl, refl)

other_byte : (m n : ℕ) → m ∷ [] ≡ n ∷ [] → m ≡ n
other_byte m n e = ap (λ xs. get_or xs 0 0) e

pub reads_stop_at_the_first : ReadsStopAtTheFirst
reads_stop_at_the_first = (
  tt,
  (refl, tt),
  (refl, (refl, refl)),
  (refl, (refl, (refl, refl))),
  (λ o. let n : 1 ≡ 0 = ap length o.1.1 in absurd (omega (arith, n))),
  (λ o. let n : 99 ≡ 97 = other_byte 99 97 o.0 in absurd (omega (arith, n))),
  (λ o. let n : 97 ≡ 99 = other_byte 97 99 o.1.0 in absurd (omega (arith, n))),
  λ o. o.1,
)

-- ---- A refusal

-- a refusal of status 3 is of a file
pub of_file : (refusal : Refusal) → 3 ≡ status_of refusal → (file : Operand) × ((why : UnreadWhy) × (refusal ≡ Unread file why))
of_file Words e = absurd (omega (arith, e))
of_file (Unread file why) e = (file, (why, refl))
of_file (Source fault) e = absurd (omega (arith, e))
of_file (Printed place) e = absurd (omega (arith, e))
of_file (Schedule text) e = absurd (omega (arith, e))
of_file (Meaning text) e = absurd (omega (arith, e))
of_file (Stuck text) e = absurd (omega (arith, e))
of_file (Illegal text) e = absurd (omega (arith, e))
of_file Budget e = absurd (omega (arith, e))
of_file Memory e = absurd (omega (arith, e))
of_file (Certificate fault) e = absurd (omega (arith, e))
of_file (Check fault) e = absurd (omega (arith, e))
of_file Steps e = absurd (omega (arith, e))
of_file (Data number) e = absurd (omega (arith, e))

no_rise : Rose 0 0 → ⊥
no_rise rose = let n = rose (omega arith) in absurd (omega (arith, n))

-- nothing is held under c, so it isn't read, or memory is short
not_read : (now : Outside) (refusal : Refusal) → FlowCause refusal c start.folder now.folder → (status_of refusal ≡ 3) ⊎ (refusal ≡ Memory)
not_read now (Unread file why) cause = inl refl
not_read now Memory cause = inr refl
not_read now _ cause = absurd (none-some cause.texts.source_text cause.texts.source_held)

no_other_status : (now : Outside) → IsRefused (Flow c) start now 4 → ⊥
no_other_status now r = elim (not_read now r.refusal r.cause) [
  | inl e ↦ (let is : 4 ≡ status_of r.refusal = r.is_status in absurd (omega (arith, e, is)))
  | inr e ↦ (let is : 4 ≡ status_of r.refusal = r.is_status in let nine : status_of r.refusal ≡ 9 = ap status_of e in absurd (omega (arith, nine, is)))
]

-- what a read of `flow` says, by its file
flow_read : (name : List ℕ) (now : Outside) (file : Operand) (why : UnreadWhy) → FlowCause (Unread file why) name start.folder now.folder → IsFirstUnread why [] name start.folder now.folder
flow_read name now operand.Source why cause = cause
flow_read name now operand.Schedule why cause = absurd cause.cause
flow_read name now operand.Data why cause = absurd cause.cause
flow_read name now operand.Certificate why cause = absurd cause.cause

flow_unread : (name : List ℕ) (now : Outside) → IsRefused (Flow name) start now 3 → (why : UnreadWhy) × IsFirstUnread why [] name start.folder now.folder
flow_unread name now r =
    let o = of_file r.refusal r.is_status in (o.1.0, flow_read name now o.0 o.1.0 (subst (λ x. FlowCause x name start.folder now.folder) o.1.1 r.cause))

-- a is held, and it isn't long
a_is_read : (why : UnreadWhy) → IsFirstUnread why [] a start.folder (at two ((a, Err read.Missing) ∷ []) [] line).folder → ⊥
a_is_read Unreadable u = elim u.unread [
  | inl rose ↦ no_rise rose
  | inr missing ↦ none-some (7 ∷ 8 ∷ []) (sym missing)
]
a_is_read Long u =
    let n : 2 ≡ length u.unread.0 = as_long (7 ∷ 8 ∷ []) u.unread.0 u.unread.1.0 in
    let more = u.unread.1.1 in
    absurd (omega (arith, n, more))

held_is_read : IsRefused (Flow a) start (at two ((a, Err read.Missing) ∷ []) [] line) 3 → ⊥
held_is_read r = let u = flow_unread a (at two ((a, Err read.Missing) ∷ []) [] line) r in a_is_read u.0 u.1

-- no read, or one that answered something else
abbrev first_answer : List Read → Result (List ℕ) ReadFault
first_answer [] = Ok []
first_answer (first ∷ others) = first.1

not_so : (fault other : ReadFault) → ◌≡◌ {A = List Read} ((c, Err fault) ∷ []) ((c, Err other) ∷ []) → fault ≡ other
not_so fault other e = let f : Err fault ≡ Err other = ap first_answer e in cc

it_is_read : IsRefused (Flow c) start (at two [] [] line) 3 → ⊥
it_is_read r = let u = flow_unread c (at two [] [] line) r in let n : 0 ≡ 1 = ap length u.1.reads in absurd (omega (arith, n))

-- c isn't held, so it isn't long
not_long : (why : UnreadWhy) → IsFirstUnread why [] c start.folder (at two ((c, Err read.Long) ∷ []) [] line).folder → ⊥
not_long Unreadable u =
    let e : read.Long ≡ u.fault = not_so read.Long u.fault u.reads in
    elim u.is_why [
      | inl failed ↦ (let f : read.Long ≡ read.Failed = e ∙ failed in absurd (cc))
      | inr missing ↦ (let f : read.Long ≡ read.Missing = e ∙ missing in absurd (cc))
    ]
not_long Long u = none-some u.unread.0 u.unread.1.0

it_is_no_long_one : IsRefused (Flow c) start (at two ((c, Err read.Long) ∷ []) [] line) 3 → ⊥
it_is_no_long_one r = let u = flow_unread c (at two ((c, Err read.Long) ∷ []) [] line) r in not_long u.0 u.1

-- the whole line, since no count rose
its_line : (text whole : List ℕ) → Told (Some []) (sink []) (sink text) whole → text ≡ whole
its_line text whole t = elim t.whole [
  | inl e ↦ same_Some text t.front t.taken ∙ e
  | inr (inl rose) ↦ absurd (no_rise rose)
  | inr (inr rose) ↦ absurd (no_rise rose)
]

no_line : (file : Operand) (why : UnreadWhy) → [] ≡ line_of (Unread file why) c → ⊥
no_line file Unreadable e = let n : 0 ≡ 13 = ap length e in absurd (omega (arith, n))
no_line file Long e = let n : 0 ≡ 17 = ap length e in absurd (omega (arith, n))

other_name : (file : Operand) (why : UnreadWhy) → codes "affc: read a\n" ≡ line_of (Unread file why) c → ⊥
other_name file Unreadable e = let n : 97 ≡ 99 = ap (λ xs. get_or xs 11 0) e in absurd (omega (arith, n))
other_name file Long e = let n : 114 ≡ 116 = ap (λ xs. get_or xs 6 0) e in absurd (omega (arith, n))

not_of_a : (why : UnreadWhy) → line ≡ line_of (Unread operand.Source why) a → ⊥
not_of_a Unreadable e = let n : 99 ≡ 97 = ap (λ xs. get_or xs 11 0) e in absurd (omega (arith, n))
not_of_a Long e = let n : 114 ≡ 116 = ap (λ xs. get_or xs 6 0) e in absurd (omega (arith, n))

not_told : (text : List ℕ) → ((file : Operand) (why : UnreadWhy) → text ≡ line_of (Unread file why) c → ⊥) → IsRefused (Flow c) start (at two (of_c ∷ []) [] text) 3 → ⊥
not_told text none r =
    let o = of_file r.refusal r.is_status in
    none o.0 o.1.0 (its_line text (line_of r.refusal c) r.told ∙ ap (λ x. line_of x c) o.1.1)

its_whole_line : Told (Some []) (sink []) (sink line) line
its_whole_line = record { front = line; is_front = ([], refl); taken = refl; whole = inl refl }

pub refusals_are_told : RefusalsAreTold
refusals_are_told = (
  record {
    refusal = Unread operand.Source Unreadable;
    is_status = refl;
    cause = record { texts = []; held = tt; fault = read.Missing; reads = refl; is_why = inr refl; unread = inr refl };
    names = refl;
    out = refl;
    told = its_whole_line;
  },
  no_other_status (at two (of_c ∷ []) [] line),
  held_is_read,
  it_is_read,
  it_is_no_long_one,
  (λ r. none-some (7 ∷ 8 ∷ []) (ap (λ h. held_under h a) r.names)),
  (λ r. let n : 1 ≡ 0 = as_long (10 ∷ []) [] r.out in absurd (omega (arith, n))),
  not_told [] no_line,
  not_told (codes "affc: read a\n") other_name,
)

-- ---- The second file

-- the reads of `fold a c` where one of its files isn't read: that of a, which didn't answer, or both
fold_reads : (now : Outside) (file : Operand) (why : UnreadWhy) → FoldCause (Unread file why) a (Some c) plain start.folder now.folder
    → ((fault : ReadFault) × ((now.folder.reads ≡ (a, Err fault) ∷ []) × (file ≡ operand.Source))) ⊎ ((text : List ℕ) × ((fault : ReadFault) × (now.folder.reads ≡ (a, Ok text) ∷ (c, Err fault) ∷ [])))
fold_reads now operand.Source why cause = inl (cause.fault, (cause.reads, refl))
fold_reads now operand.Schedule why cause = inr (both cause.texts cause.held cause.reads)
  where
    both : (texts : List (List ℕ)) → AreHeld (Some two) (a ∷ []) texts → now.folder.reads ≡ answered (a ∷ []) texts ++ (c, Err cause.fault) ∷ []
        → (text : List ℕ) × ((fault : ReadFault) × (now.folder.reads ≡ (a, Ok text) ∷ (c, Err fault) ∷ []))
    both [] are reads = absurd are
    both (text ∷ texts) are reads = (text, (cause.fault, reads))
fold_reads now operand.Data why cause = absurd cause.cause
fold_reads now operand.Certificate why cause = absurd cause.cause

-- the first of two reads answered a fault
unanswered : (text : List ℕ) (fault : ReadFault) → ◌≡◌ {A = List Read} ((a, Err read.Failed) ∷ of_c ∷ []) ((a, Ok text) ∷ (c, Err fault) ∷ []) → ⊥
unanswered text fault e = let f : Err read.Failed ≡ Ok text = ap first_answer e in absurd (cc)

abbrev name_of_first : List Read → List ℕ
name_of_first [] = []
name_of_first (first ∷ others) = first.0

abbrev of_fold : (faults : ℕ) → (reads : List Read) → Type 0
of_fold faults reads = IsRefused (Fold a (Some c) plain None) start (beside two faults reads [] line) 3

source_failed : of_fold 1 ((a, Err read.Failed) ∷ of_c ∷ []) → ⊥
source_failed r =
    let now = beside two 1 ((a, Err read.Failed) ∷ of_c ∷ []) [] line in
    let o = of_file r.refusal r.is_status in
    elim (fold_reads now o.0 o.1.0 (subst (λ x. FoldCause x a (Some c) plain start.folder now.folder) o.1.1 r.cause)) [
      | inl first ↦ (let n : 2 ≡ 1 = ap length first.1.0 in absurd (omega (arith, n)))
      | inr both ↦ unanswered both.0 both.1.0 both.1.1
    ]

source_alone_failed : of_fold 1 ((a, Err read.Failed) ∷ []) → ⊥
source_alone_failed r =
    let now = beside two 1 ((a, Err read.Failed) ∷ []) [] line in
    let o = of_file r.refusal r.is_status in
    elim (fold_reads now o.0 o.1.0 (subst (λ x. FoldCause x a (Some c) plain start.folder now.folder) o.1.1 r.cause)) [
      | inl first ↦ (let is : r.refusal ≡ Unread operand.Source o.1.0 = o.1.1 ∙ ap (λ f. Unread f o.1.0) first.1.1 in
          not_of_a o.1.0 (its_line line (line_of r.refusal (fold_file r.refusal a (Some c))) r.told ∙ ap (λ x. line_of x (fold_file x a (Some c))) is))
      | inr both ↦ (let n : 1 ≡ 2 = ap length both.1.1 in absurd (omega (arith, n)))
    ]

source_not_read : of_fold 0 (of_c ∷ []) → ⊥
source_not_read r =
    let now = beside two 0 (of_c ∷ []) [] line in
    let o = of_file r.refusal r.is_status in
    elim (fold_reads now o.0 o.1.0 (subst (λ x. FoldCause x a (Some c) plain start.folder now.folder) o.1.1 r.cause)) [
      | inl first ↦ (let n : 99 ≡ 97 = other_byte 99 97 (ap name_of_first first.1.0) in absurd (omega (arith, n)))
      | inr both ↦ (let n : 1 ≡ 2 = ap length both.1.1 in absurd (omega (arith, n)))
    ]

pub unread_is_told_behind : UnreadIsToldBehind
unread_is_told_behind = (
  record {
    refusal = Unread operand.Schedule Unreadable;
    is_status = refl;
    cause = record { texts = (7 ∷ 8 ∷ []) ∷ []; held = (refl, (omega arith, tt)); fault = read.Missing; reads = refl; is_why = inr refl; unread = inr refl };
    names = refl;
    out = refl;
    told = its_whole_line;
  },
  source_failed,
  source_alone_failed,
  source_not_read,
)

-- ---- Costs, and the lines of `big`

pub costs_by_name : CostsByName
unfolding least_power
costs_by_name = (refl, (λ e. let n : 8 ≡ 15 = e in absurd (omega (arith, n))), refl, refl)

pub eight_stages : EightStages
unfolding digits
eight_stages = refl
