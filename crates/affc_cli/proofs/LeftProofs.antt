-- What a call of the program leaves as it was.
use Rattle.std.proofs.Common.{◌≡◌, ◌≢◌, ◌⊎◌, ℕ, List, Option, None, Some, MatchOption, [], refl, sym, ap, subst, ◌∙◌, inl, inr, arith}
use Rattle.affc_io.specs.Files.{held_under}
use Rattle.affc_io.specs.State.{Files, FolderState, SinkState}
use Rattle.affc_words.specs.Command.{Command, Fold, Replay, Run, Flow, Big, command_of}
use Rattle.affc_lines.specs.Lines.{status_of, line_of}
use Rattle.affc_lines.specs.Told.{Told}
use Rattle.affc_lines.specs.declared.refusal.Refusal.{Refusal}
use Rattle.affc_lines.specs.declared.refusal.Refusal.TheVariants.{Words, Unread, Source, Printed, Schedule, Meaning, Stuck, Illegal, Budget, Memory, Certificate, Check, Steps, Data}
use Rattle.affc_cli.specs.Laws.{WordsAreTold, OtherFilesStay, IsLineOf, RefusalsWriteNothing}
use Rattle.affc_cli.specs.Outside.{Outside, NamesStay}
use Rattle.affc_cli.specs.Promise.{Cause, written_file, refusal_line, IsRefused, Runs, IsSaid, WordsRefused}
use Rattle.affc_cli.specs.Refusal.{fold_file, file_of, replay_file}

-- what the program does, by what the words stand for
abbrev Does : Option Command → (before now : Outside) → (status : ℕ) → Type 0
Does c before now status = MatchOption c (WordsRefused before now status) (λ command. Runs command before now status)

-- ---- Words that are no command form

are_words : (refusal : Refusal) → 2 ≡ status_of refusal → refusal ≡ Words
are_words Words e = refl
are_words (Unread file why) e = absurd (omega (arith, e))
are_words (Source fault) e = absurd (omega (arith, e))
are_words (Printed place) e = absurd (omega (arith, e))
are_words (Schedule line) e = absurd (omega (arith, e))
are_words (Meaning line) e = absurd (omega (arith, e))
are_words (Stuck line) e = absurd (omega (arith, e))
are_words (Illegal line) e = absurd (omega (arith, e))
are_words Budget e = absurd (omega (arith, e))
are_words Memory e = absurd (omega (arith, e))
are_words (Certificate fault) e = absurd (omega (arith, e))
are_words (Check fault) e = absurd (omega (arith, e))
are_words Steps e = absurd (omega (arith, e))
are_words (Data number) e = absurd (omega (arith, e))

no_words : (command : Command) (refusal : Refusal) (before now : FolderState) → refusal ≡ Words → Cause command refusal before now → ⊥
no_words (Fold source schedule settings file) refusal before now e cause = (subst (λ r. Cause (Fold source schedule settings file) r before now) e cause).cause
no_words (Replay source schedule certificate) refusal before now e cause = (subst (λ r. Cause (Replay source schedule certificate) r before now) e cause).cause
no_words (Run source feed limit) refusal before now e cause = (subst (λ r. Cause (Run source feed limit) r before now) e cause).cause
no_words (Flow source) refusal before now e cause = (subst (λ r. Cause (Flow source) r before now) e cause).cause
no_words (Big stages) refusal before now e cause = (subst (λ r. Cause (Big stages) r before now) e cause).1

not_two : (command : Command) (before now : Outside) (status : ℕ) → status ≡ 2 → Runs command before now status → ⊥
not_two command before now status e runs =
    let r : IsRefused command before now status = runs.refused (λ z. absurd (omega (arith, e, z))) (λ z. absurd (omega (arith, e, z))) (λ z. absurd (omega (arith, e, z))) in
    no_words command r.refusal before.folder now.folder (are_words r.refusal (sym e ∙ r.is_status)) r.cause

words_told : (c : Option Command) (before now : Outside) (status : ℕ) → Does c before now status → (status ≡ 2 → c ≡ None) × (c ≡ None → (status ≡ 2) ⊎ (status ≡ 9))
words_told None before now status (inl said) = ((λ e. refl), λ e. inl said.is_status)
words_told None before now status (inr said) = ((λ e. refl), λ e. inr said.is_status)
words_told (Some command) before now status runs = ((λ e. absurd (not_two command before now status e runs)), λ e. absurd (cc))

pub words_are_told : WordsAreTold
words_are_told words before now status serves = words_told (command_of words) before now status serves

-- ---- Files

names_stay : (file : Option (List ℕ)) (before now : Option Files) (name : List ℕ) → NamesStay file before now → file ≢ Some name → held_under now name ≡ held_under before name
names_stay None before now name stay other = ap (λ h. held_under h name) stay
names_stay (Some file) before now name stay other = stay.others name (λ e. other (ap Some (sym e)))

file_stays : (c : Option Command) (before now : Outside) (status : ℕ) (name : List ℕ) → Does c before now status → ((command : Command) → c ≡ Some command → written_file command ≢ Some name)
    → held_under now.folder.held name ≡ held_under before.folder.held name
file_stays None before now status name (inl said) other = ap (λ (f : FolderState). held_under f.held name) said.folder
file_stays None before now status name (inr said) other = ap (λ (f : FolderState). held_under f.held name) said.folder
file_stays (Some command) before now status name runs other = names_stay (written_file command) before.folder.held now.folder.held name runs.keeps.names (other command refl)

pub other_files_stay : OtherFilesStay
other_files_stay words before now status name serves other = file_stays (command_of words) before now status name serves other

-- ---- Refusals

-- the line of a command's refusal names one of its files
abbrev its_file : Command → Refusal → List ℕ
its_file (Fold source schedule settings file) refusal = fold_file refusal source schedule
its_file (Replay source schedule certificate) refusal = replay_file refusal source schedule certificate
its_file (Run source feed limit) refusal = file_of refusal source feed
its_file (Flow source) refusal = source
its_file (Big stages) refusal = []

its_line : (command : Command) (refusal : Refusal) → refusal_line command refusal ≡ line_of refusal (its_file command refusal)
its_line (Fold source schedule settings file) refusal = refl
its_line (Replay source schedule certificate) refusal = refl
its_line (Run source feed limit) refusal = refl
its_line (Flow source) refusal = refl
its_line (Big stages) refusal = refl

said_alone : (refusal : Refusal) (before now : Outside) (status : ℕ) → IsSaid refusal before now status → (now.folder.held ≡ before.folder.held) × ((now.out.taken ≡ before.out.taken) × IsLineOf before now status)
said_alone refusal before now status said = (ap (λ (f : FolderState). f.held) said.folder, (ap (λ (s : SinkState). s.taken) said.out, (refusal, ([], (said.is_status, said.told)))))

refused_alone : (c : Option Command) (before now : Outside) (status : ℕ) → Does c before now status → status ≢ 0 → status ≢ 9 → status ≢ 10
    → (now.folder.held ≡ before.folder.held) × ((now.out.taken ≡ before.out.taken) × IsLineOf before now status)
refused_alone None before now status (inl said) undone enough kept = said_alone Words before now status said
refused_alone None before now status (inr said) undone enough kept = said_alone Memory before now status said
refused_alone (Some command) before now status runs undone enough kept =
    let r : IsRefused command before now status = runs.refused undone enough kept in
    (r.names, (r.out, (r.refusal, (its_file command r.refusal, (r.is_status, subst (Told before.err.taken before.err now.err) (its_line command r.refusal) r.told)))))

pub refusals_write_nothing : RefusalsWriteNothing
refusals_write_nothing words before now status serves undone enough kept = refused_alone (command_of words) before now status serves undone enough kept
