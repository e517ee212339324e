-- How a command ends, from what it made and what became of that at the folder and the two sinks.
use Rattle.std.proofs.Common.{◌≡◌, ◌≢◌, ◌≤◌, ◌⊎◌, ℕ, List, [], ◌∷◌, Option, None, Some, MatchOption, Result, Ok, Err, IfOk, IfErr, Contains, refl, ap, sym, subst, ◌∙◌, inl, inr, arith, lit<}
use Rattle.std.specs.Option.{is_some}
use Rattle.std.proofs.lemmas.Option.{none-some}
use Rattle.affc_io.specs.Count.{Rose}
use Rattle.affc_io.specs.Files.{Holds, IsLeft, held_under}
use Rattle.affc_io.specs.Front.{IsFront}
use Rattle.affc_io.specs.State.{Files, FolderState, SinkState, FolderKeeps, SinkCounts}
use Rattle.affc_io.specs.Taken.{grown}
use Rattle.affc_words.specs.declared.words.Settings.{Settings}
use Rattle.affc_words.specs.Command.{Command, Fold, Replay, Run, Flow, Big, command_of}
use Rattle.affc_cli.specs.Big.{SumsUp, BigCause}
use Rattle.affc_cli.specs.Outside.{Outside, outside, NamesStay, Keeps, KeepsBut, IsReadInOrder}
use Rattle.affc_lines.specs.Told.{Told, IsTold}
use Rattle.affc_cli.specs.Promise.{FoldPromises, ReplayPromises, RunPromises, FlowPromises, BigPromises, Promises, Cause, written_file, names_of, statuses_of, refusal_line, Makes, IsFiled, FiledInPart, WrittenInPart, ReportedInPart, Runs, IsSaid, WordsRefused, Serves}
use Rattle.affc_lines.specs.Lines.{status_of, line_of}
use Rattle.affc_cli.specs.Refusal.{FoldCause, fold_file, FlowCause, RunCause, file_of, ReplayCause, replay_file}
use Rattle.affc_cli.specs.Telling.{Reports, Puts, IsPut, IsPutShort, IsPutFailed, IsRefusal, Ends, EndsFiled, EndsWith}
use Rattle.affc_cli.specs.declared.pieces.Pieces.{Pieces}
use Rattle.affc_lines.specs.declared.refusal.Operand.TheVariants as operand
use Rattle.affc_lines.specs.declared.refusal.Refusal.{Refusal}
use Rattle.affc_lines.specs.declared.refusal.Refusal.TheVariants.{Words, Unread, Source, Printed, Schedule, Meaning, Stuck, Illegal, Budget, Memory, Certificate, Check, Steps, Data}
use Rattle.affc_lines.proofs.Telling.{rose_later}
use Rattle.affc_cli.proofs.Reading.{nothing_read, none_in_order}

-- ---- Statuses and lines

not_zero : (refusal : Refusal) → status_of refusal ≢ 0
not_zero Words e = absurd (omega arith)
not_zero (Unread file why) e = absurd (omega arith)
not_zero (Source fault) e = absurd (omega arith)
not_zero (Printed place) e = absurd (omega arith)
not_zero (Schedule line) e = absurd (omega arith)
not_zero (Meaning line) e = absurd (omega arith)
not_zero (Stuck line) e = absurd (omega arith)
not_zero (Illegal line) e = absurd (omega arith)
not_zero Budget e = absurd (omega arith)
not_zero Memory e = absurd (omega arith)
not_zero (Certificate fault) e = absurd (omega arith)
not_zero (Check fault) e = absurd (omega arith)
not_zero Steps e = absurd (omega arith)
not_zero (Data number) e = absurd (omega arith)

not_ten : (refusal : Refusal) → status_of refusal ≢ 10
not_ten Words e = absurd (omega arith)
not_ten (Unread file why) e = absurd (omega arith)
not_ten (Source fault) e = absurd (omega arith)
not_ten (Printed place) e = absurd (omega arith)
not_ten (Schedule line) e = absurd (omega arith)
not_ten (Meaning line) e = absurd (omega arith)
not_ten (Stuck line) e = absurd (omega arith)
not_ten (Illegal line) e = absurd (omega arith)
not_ten Budget e = absurd (omega arith)
not_ten Memory e = absurd (omega arith)
not_ten (Certificate fault) e = absurd (omega arith)
not_ten (Check fault) e = absurd (omega arith)
not_ten Steps e = absurd (omega arith)
not_ten (Data number) e = absurd (omega arith)

is_memory : (refusal : Refusal) → status_of refusal ≡ 9 → refusal ≡ Memory
is_memory Words e = absurd (omega arith)
is_memory (Unread file why) e = absurd (omega arith)
is_memory (Source fault) e = absurd (omega arith)
is_memory (Printed place) e = absurd (omega arith)
is_memory (Schedule line) e = absurd (omega arith)
is_memory (Meaning line) e = absurd (omega arith)
is_memory (Stuck line) e = absurd (omega arith)
is_memory (Illegal line) e = absurd (omega arith)
is_memory Budget e = absurd (omega arith)
is_memory Memory e = refl
is_memory (Certificate fault) e = absurd (omega arith)
is_memory (Check fault) e = absurd (omega arith)
is_memory Steps e = absurd (omega arith)
is_memory (Data number) e = absurd (omega arith)

memory_line : (command : Command) (name : List ℕ) → line_of Memory name ≡ refusal_line command Memory
memory_line (Fold source schedule settings file) name = refl
memory_line (Replay source schedule certificate) name = refl
memory_line (Run source feed limit) name = refl
memory_line (Flow source) name = refl
memory_line (Big stages) name = refl

short_line : (command : Command) → refusal_line command Memory ≡ line_of Memory []
short_line (Fold source schedule settings file) = refl
short_line (Replay source schedule certificate) = refl
short_line (Run source feed limit) = refl
short_line (Flow source) = refl
short_line (Big stages) = refl

-- want of memory in place of a refusal
memory_cause : (command : Command) (refusal : Refusal) (before now : FolderState) → Cause command refusal before now → Cause command Memory before now
memory_cause (Fold source schedule settings file) refusal before now cause = tt
memory_cause (Replay source schedule certificate) refusal before now cause = tt
memory_cause (Run source feed limit) refusal before now cause = tt
memory_cause (Flow source) refusal before now cause = tt
memory_cause (Big stages) refusal before now cause = (cause.0, tt)

ends_with_0 : (command : Command) → Contains (statuses_of command) 0
ends_with_0 (Fold source schedule settings file) = (0, lit< tt, refl)
ends_with_0 (Replay source schedule certificate) = (0, lit< tt, refl)
ends_with_0 (Run source feed limit) = (0, lit< tt, refl)
ends_with_0 (Flow source) = (0, lit< tt, refl)
ends_with_0 (Big stages) = (0, lit< tt, refl)

ends_with_9 : (command : Command) → Contains (statuses_of command) 9
ends_with_9 (Fold source schedule settings file) = (7, lit< tt, refl)
ends_with_9 (Replay source schedule certificate) = (5, lit< tt, refl)
ends_with_9 (Run source feed limit) = (4, lit< tt, refl)
ends_with_9 (Flow source) = (4, lit< tt, refl)
ends_with_9 (Big stages) = (5, lit< tt, refl)

ends_with_10 : (command : Command) → Contains (statuses_of command) 10
ends_with_10 (Fold source schedule settings file) = (8, lit< tt, refl)
ends_with_10 (Replay source schedule certificate) = (6, lit< tt, refl)
ends_with_10 (Run source feed limit) = (5, lit< tt, refl)
ends_with_10 (Flow source) = (5, lit< tt, refl)
ends_with_10 (Big stages) = (6, lit< tt, refl)

ends_with : (command : Command) (refusal : Refusal) (before now : FolderState) → Cause command refusal before now → Contains (statuses_of command) (status_of refusal)
ends_with (Fold source schedule settings file) (Unread operand.Source why) before now cause = (1, lit< tt, refl)
ends_with (Fold source schedule settings file) (Unread operand.Schedule why) before now cause = (1, lit< tt, refl)
ends_with (Fold source schedule settings file) (Source fault) before now cause = (2, lit< tt, refl)
ends_with (Fold source schedule settings file) (Printed place) before now cause = (2, lit< tt, refl)
ends_with (Fold source schedule settings file) (Schedule line) before now cause = (4, lit< tt, refl)
ends_with (Fold source schedule settings file) (Meaning line) before now cause = (3, lit< tt, refl)
ends_with (Fold source schedule settings file) (Illegal line) before now cause = (5, lit< tt, refl)
ends_with (Fold source schedule settings file) Budget before now cause = (6, lit< tt, refl)
ends_with (Fold source schedule settings file) Memory before now cause = (7, lit< tt, refl)
ends_with (Fold source schedule settings file) _ before now cause = absurd cause.cause
ends_with (Replay source schedule certificate) (Unread operand.Source why) before now cause = (1, lit< tt, refl)
ends_with (Replay source schedule certificate) (Unread operand.Schedule why) before now cause = (1, lit< tt, refl)
ends_with (Replay source schedule certificate) (Unread operand.Certificate why) before now cause = (1, lit< tt, refl)
ends_with (Replay source schedule certificate) (Source fault) before now cause = (2, lit< tt, refl)
ends_with (Replay source schedule certificate) (Printed place) before now cause = (2, lit< tt, refl)
ends_with (Replay source schedule certificate) (Schedule line) before now cause = (4, lit< tt, refl)
ends_with (Replay source schedule certificate) (Meaning line) before now cause = (3, lit< tt, refl)
ends_with (Replay source schedule certificate) (Certificate fault) before now cause = (7, lit< tt, refl)
ends_with (Replay source schedule certificate) (Check fault) before now cause = (7, lit< tt, refl)
ends_with (Replay source schedule certificate) Memory before now cause = (5, lit< tt, refl)
ends_with (Replay source schedule certificate) _ before now cause = absurd cause.cause
ends_with (Run source feed limit) (Unread operand.Source why) before now cause = (1, lit< tt, refl)
ends_with (Run source feed limit) (Unread operand.Data why) before now cause = (1, lit< tt, refl)
ends_with (Run source feed limit) (Source fault) before now cause = (2, lit< tt, refl)
ends_with (Run source feed limit) (Stuck line) before now cause = (3, lit< tt, refl)
ends_with (Run source feed limit) Memory before now cause = (4, lit< tt, refl)
ends_with (Run source feed limit) Steps before now cause = (6, lit< tt, refl)
ends_with (Run source feed limit) (Data number) before now cause = (7, lit< tt, refl)
ends_with (Run source feed limit) _ before now cause = absurd cause.cause
ends_with (Flow source) (Unread operand.Source why) before now cause = (1, lit< tt, refl)
ends_with (Flow source) (Source fault) before now cause = (2, lit< tt, refl)
ends_with (Flow source) (Printed place) before now cause = (2, lit< tt, refl)
ends_with (Flow source) (Meaning line) before now cause = (3, lit< tt, refl)
ends_with (Flow source) Memory before now cause = (4, lit< tt, refl)
ends_with (Flow source) _ before now cause = absurd cause.cause
ends_with (Big stages) (Source fault) before now cause = (1, lit< tt, refl)
ends_with (Big stages) (Printed place) before now cause = (1, lit< tt, refl)
ends_with (Big stages) (Schedule line) before now cause = (3, lit< tt, refl)
ends_with (Big stages) (Meaning line) before now cause = (2, lit< tt, refl)
ends_with (Big stages) (Illegal line) before now cause = (4, lit< tt, refl)
ends_with (Big stages) Memory before now cause = (5, lit< tt, refl)
ends_with (Big stages) Budget before now cause = absurd (none-some cause.1.most cause.1.limited)
ends_with (Big stages) _ before now cause = absurd cause.1

-- ---- Names that stay

names_after : (file : Option (List ℕ)) (a b c : Option Files) → b ≡ a → NamesStay file b c → NamesStay file a c
names_after None a b c same stay = stay ∙ same
names_after (Some file) a b c same stay = record {
  told = stay.told ∙ ap is_some same;
  others = λ other ne. stay.others other ne ∙ ap (λ h. held_under h other) same;
}

names_still : (file : Option (List ℕ)) (a c : Option Files) → c ≡ a → NamesStay file a c
names_still None a c same = same
names_still (Some file) a c same = record {
  told = ap is_some same;
  others = λ other ne. ap (λ h. held_under h other) same;
}

keeps_both : (file : Option (List ℕ)) (before : Outside) (mid : FolderState) (now : Outside) → FolderKeeps before.folder mid → KeepsBut file mid now.folder
    → SinkCounts before.out now.out → SinkCounts before.err now.err → Keeps file before now
keeps_both file before mid now kept but out err = record {
  names = names_after file before.folder.held mid.held now.folder.held kept.names but.names;
  faults = omega (arith, kept.faults, but.faults);
  shortages = omega (arith, kept.shortages, but.shortages);
  out = out;
  err = err;
}

-- nothing is written to a folder that isn't called
pub keeps_still : (s : FolderState) → KeepsBut None s s
keeps_still s = record { names = refl; faults = omega arith; shortages = omega arith; reads = refl }

keeps_any : (file : Option (List ℕ)) (before now : Outside) → Keeps None before now → Keeps file before now
keeps_any file before now keeps = record {
  names = names_still file before.folder.held now.folder.held keeps.names;
  faults = keeps.faults;
  shortages = keeps.shortages;
  out = keeps.out;
  err = keeps.err;
}

-- ---- Refused

refused_runs : (command : Command) (refusal : Refusal) (before now : Outside) (status : ℕ) → status ≡ status_of refusal
    → Cause command refusal before.folder now.folder → IsReadInOrder (names_of command) before.folder now.folder → now.folder.held ≡ before.folder.held → now.out.taken ≡ before.out.taken
    → Told before.err.taken before.err now.err (refusal_line command refusal) → Keeps (written_file command) before now
    → Runs command before now status
refused_runs command refusal before now status is cause reads names out told keeps = record {
  answers = subst (Contains (statuses_of command)) (sym is) (ends_with command refusal before.folder now.folder cause);
  keeps = keeps;
  done = λ e. absurd (not_zero refusal (sym is ∙ e));
  short = λ e. inl (record {
    reads = reads;
    names = names;
    out = out;
    told = subst (Told before.err.taken before.err now.err) (ap (refusal_line command) (is_memory refusal (sym is ∙ e)) ∙ short_line command) told;
  });
  failed = λ e. absurd (not_ten refusal (sym is ∙ e));
  refused = λ _ other _. record {
    refusal = refusal;
    is_status = is;
    cause = cause;
    names = names;
    out = out;
    told = told;
  };
}

-- the refusal was told, or want of memory in its place
told_runs : (command : Command) (refusal : Refusal) (name : List ℕ) (before now : Outside) (status : ℕ)
    → Cause command refusal before.folder now.folder → IsReadInOrder (names_of command) before.folder now.folder → line_of refusal name ≡ refusal_line command refusal
    → now.folder.held ≡ before.folder.held → now.out.taken ≡ before.out.taken → IsTold refusal name before.err now.err status → Keeps (written_file command) before now → Runs command before now status
told_runs command refusal name before now status cause reads line names out told keeps = of told.is
  where
    of : (told.said ≡ refusal) ⊎ (told.said ≡ Memory) → Runs command before now status
    of (inl e) =
        refused_runs command refusal before now status (told.is_status ∙ ap status_of e) cause reads names out
        (subst (Told before.err.taken before.err now.err) (ap (λ r. line_of r name) e ∙ line) told.told) keeps
    of (inr e) =
        refused_runs command Memory before now status (told.is_status ∙ ap status_of e) (memory_cause command refusal before.folder now.folder cause) reads names out
        (subst (Told before.err.taken before.err now.err) (ap (λ r. line_of r name) e ∙ memory_line command name) told.told) keeps

-- ---- Written

module _ (command : Command) (before now : Outside) (status : ℕ) (makes : Makes command before now) where
  -- a front of the text went out
  abbrev in_part : (front : List ℕ) → IsFiled (written_file command) makes.certificate now.folder → IsFront makes.text front → front ≢ makes.text
      → now.out.taken ≡ grown before.out.taken front → WrittenInPart command before now
  in_part front filed is_front cut took = record { makes = makes; filed = filed; front = front; is_front = is_front; cut = cut; out = took }

  -- the text went out, and a front of the report behind it
  abbrev behind_text : (front : List ℕ) → IsFiled (written_file command) makes.certificate now.folder → now.out.taken ≡ grown before.out.taken makes.text
      → IsFront makes.report front → front ≢ makes.report → ReportedInPart command before now
  behind_text front filed took is_front cut = record { makes = makes; filed = filed; out = took; front = front; is_front = is_front; cut = cut }

  reports_run : IsFiled (written_file command) makes.certificate now.folder → now.out.taken ≡ grown before.out.taken makes.text
      → Reports makes.report before.err now.err status → Keeps (written_file command) before now → Runs command before now status
  reports_run filed took (inl told) keeps =
      let is = told.is_status in
      record {
        answers = subst (Contains (statuses_of command)) (sym is) (ends_with_0 command);
        keeps = keeps;
        done = λ _. record { makes = makes; filed = filed; out = took; err = told.taken };
        short = λ e. absurd (omega arith);
        failed = λ e. absurd (omega arith);
        refused = λ other _ _. absurd (other is);
      }
  reports_run filed took (inr (inl told)) keeps =
      let is = told.is_status in
      record {
        answers = subst (Contains (statuses_of command)) (sym is) (ends_with_9 command);
        keeps = keeps;
        done = λ e. absurd (omega arith);
        short = λ _. inr (inr (inr (record {
          written = behind_text told.front filed took told.is_front told.cut;
          short = told.short;
          told = told.told;
        })));
        failed = λ e. absurd (omega arith);
        refused = λ _ other _. absurd (other is);
      }
  reports_run filed took (inr (inr told)) keeps =
      let is = told.is_status in
      record {
        answers = subst (Contains (statuses_of command)) (sym is) (ends_with_10 command);
        keeps = keeps;
        done = λ e. absurd (omega arith);
        short = λ e. absurd (omega arith);
        failed = λ _. inr (inr (record {
          written = behind_text told.front filed took told.is_front told.cut;
          fault = told.fault;
          err = told.taken;
        }));
        refused = λ _ _ other. absurd (other is);
      }

  puts_run : IsFiled (written_file command) makes.certificate now.folder → Puts makes.text makes.report before.out now.out before.err now.err status
      → Keeps (written_file command) before now → Runs command before now status
  puts_run filed (inl put) keeps = reports_run filed put.taken put.reports keeps
  puts_run filed (inr (inl put)) keeps =
      let is = put.is_status in
      record {
        answers = subst (Contains (statuses_of command)) (sym is) (ends_with_9 command);
        keeps = keeps;
        done = λ e. absurd (omega arith);
        short = λ _. inr (inr (inl (record {
          written = in_part put.front filed put.is_front put.cut put.taken;
          short = put.short;
          told = put.told;
        })));
        failed = λ e. absurd (omega arith);
        refused = λ _ other _. absurd (other is);
      }
  puts_run filed (inr (inr put)) keeps =
      let is = put.is_status in
      record {
        answers = subst (Contains (statuses_of command)) (sym is) (ends_with_10 command);
        keeps = keeps;
        done = λ e. absurd (omega arith);
        short = λ e. absurd (omega arith);
        failed = λ _. inr (inl (record {
          written = in_part put.front filed put.is_front put.cut put.taken;
          fault = put.fault;
          silent = put.silent;
        }));
        refused = λ _ _ other. absurd (other is);
      }

  -- ---- The certificate's file

  module _ (file : List ℕ) (named : written_file command ≡ Some file) (left : IsLeft before.folder.held now.folder.held file makes.certificate) (out : now.out.taken ≡ before.out.taken) where
    abbrev filed_in_part : FiledInPart command before now
    filed_in_part = record { makes = makes; file = file; named = named; left = left; out = out }

    filing_short : status ≡ 9 → Rose before.folder.shortages now.folder.shortages → Told before.err.taken before.err now.err (line_of Memory []) → Keeps (written_file command) before now
        → Runs command before now status
    filing_short is short told keeps = record {
      answers = subst (Contains (statuses_of command)) (sym is) (ends_with_9 command);
      keeps = keeps;
      done = λ e. absurd (omega arith);
      short = λ _. inr (inl (record { written = filed_in_part; short = short; told = told }));
      failed = λ e. absurd (omega arith);
      refused = λ _ other _. absurd (other is);
    }

    filing_failed : status ≡ 10 → Rose before.folder.faults now.folder.faults → now.err.taken ≡ before.err.taken → Keeps (written_file command) before now
        → Runs command before now status
    filing_failed is fault silent keeps = record {
      answers = subst (Contains (statuses_of command)) (sym is) (ends_with_10 command);
      keeps = keeps;
      done = λ e. absurd (omega arith);
      short = λ e. absurd (omega arith);
      failed = λ _. inl (record { written = filed_in_part; fault = fault; silent = silent });
      refused = λ _ _ other. absurd (other is);
    }

-- ---- All of it

-- what a command's refusal needs: its cause, the order of its reads, and the line of the file that is meant
abbrev IsCaused : Command → (name : List ℕ) → (before now : FolderState) → Refusal → Type 0
IsCaused command name before now refusal =
    Cause command refusal before now × IsReadInOrder (names_of command) before now × (line_of refusal name ≡ refusal_line command refusal)

-- what is promised of what was read holds of the folder later, where nothing was read since
still_promised : (command : Command) (before mid now : FolderState) (certificate text report : List ℕ) → now.reads ≡ mid.reads → Promises command before mid certificate text report → Promises command before now certificate text report
still_promised (Fold source schedule settings file) before mid now certificate text report same p = record {
  texts = record {
    source_text = p.texts.source_text;
    source_held = p.texts.source_held;
    schedule_text = p.texts.schedule_text;
    schedule_held = p.texts.schedule_held;
    reads = same ∙ p.texts.reads;
  };
  makes = p.makes;
}
still_promised (Replay source schedule shown) before mid now certificate text report same p = record {
  texts = record {
    source_text = p.texts.source_text;
    source_held = p.texts.source_held;
    schedule_text = p.texts.schedule_text;
    schedule_held = p.texts.schedule_held;
    certificate_text = p.texts.certificate_text;
    certificate_held = p.texts.certificate_held;
    reads = same ∙ p.texts.reads;
  };
  replays_to = p.replays_to;
}
still_promised (Run source feed limit) before mid now certificate text report same p = record {
  texts = record {
    source_text = p.texts.source_text;
    source_held = p.texts.source_held;
    feed_text = p.texts.feed_text;
    feed_held = p.texts.feed_held;
    reads = same ∙ p.texts.reads;
  };
  runs_to = p.runs_to;
  no_report = p.no_report;
}
still_promised (Flow source) before mid now certificate text report same p = record {
  texts = record { source_text = p.texts.source_text; source_held = p.texts.source_held; reads = same ∙ p.texts.reads };
  flows_to = p.flows_to;
  no_report = p.no_report;
}
still_promised (Big stages) before mid now certificate text report same p = record { reads = same ∙ p.reads; sums_up = p.sums_up; no_report = p.no_report }

-- `mid` is the folder once its files were read
module _ (command : Command) (name : List ℕ) (before : Outside) (mid : FolderState) (now : Outside) (status : ℕ) where
  refusal_runs : (refusal : Refusal) → IsCaused command name before.folder mid refusal → mid.held ≡ before.folder.held → now.folder ≡ mid
      → IsRefusal refusal name before.out now.out before.err now.err status → Keeps (written_file command) before now → Runs command before now status
  refusal_runs refusal caused same still told keeps =
      let all : IsCaused command name before.folder now.folder refusal = subst (λ f. IsCaused command name before.folder f refusal) (sym still) caused in
      told_runs command refusal name before now status all.0 all.1 all.2 (ap (λ (f : FolderState). f.held) still ∙ same) told.untouched told.told keeps

  abbrev makes_of : (file : Option (List ℕ)) → (m : Pieces) → Promises command before.folder mid m.certificate.items m.text.items m.report.items
      → KeepsBut file mid now.folder → Makes command before now
  makes_of file m promised but = record {
    certificate = m.certificate.items;
    text = m.text.items;
    report = m.report.items;
    promised = still_promised command before.folder mid now.folder m.certificate.items m.text.items m.report.items but.reads promised;
  }

  made_runs : (file : Option (List ℕ)) → written_file command ≡ file → (m : Pieces) → Promises command before.folder mid m.certificate.items m.text.items m.report.items
      → FolderKeeps before.folder mid → KeepsBut file mid now.folder
      → EndsWith file (Ok m) name mid now.folder before.out now.out before.err now.err status → Keeps (written_file command) before now → Runs command before now status
  made_runs file is m promised kept but ends keeps = of file is but ends
    where
      of : (file : Option (List ℕ)) → written_file command ≡ file → KeepsBut file mid now.folder
          → EndsWith file (Ok m) name mid now.folder before.out now.out before.err now.err status → Runs command before now status
      of None is but ends =
          puts_run command before now status (makes_of None m promised but) (subst (λ f. IsFiled f m.certificate.items now.folder) (sym is) tt) ends.1 keeps
      of (Some f) is but (inl first) =
          puts_run command before now status (makes_of (Some f) m promised but) (subst (λ o. IsFiled o m.certificate.items now.folder) (sym is) first.filed) first.puts keeps
      of (Some f) is but (inr (inl filing)) =
          filing_short command before now status (makes_of (Some f) m promised but) f is
          (subst (λ h. IsLeft h now.folder.held f m.certificate.items) kept.names filing.left) filing.untouched filing.is_status
          (rose_later before.folder.shortages mid.shortages now.folder.shortages kept.shortages filing.short) filing.told keeps
      of (Some f) is but (inr (inr filing)) =
          filing_failed command before now status (makes_of (Some f) m promised but) f is
          (subst (λ h. IsLeft h now.folder.held f m.certificate.items) kept.names filing.left) filing.untouched filing.is_status
          (rose_later before.folder.faults mid.faults now.folder.faults kept.faults filing.fault) filing.silent keeps

  ends_run : (file : Option (List ℕ)) → written_file command ≡ file → (made : Result Pieces Refusal)
      → IfOk made (λ m. Promises command before.folder mid m.certificate.items m.text.items m.report.items)
      → IfErr made (IsCaused command name before.folder mid) → FolderKeeps before.folder mid → KeepsBut file mid now.folder
      → EndsWith file made name mid now.folder before.out now.out before.err now.err status → SinkCounts before.out now.out → SinkCounts before.err now.err
      → Runs command before now status
  ends_run file is (Ok m) promised caused kept but ends out err =
      made_runs file is m promised kept but ends (subst (λ f. Keeps f before now) (sym is) (keeps_both file before mid now kept but out err))
  ends_run None is (Err refusal) promised caused kept but ends out err =
      refusal_runs refusal caused kept.names ends.0 ends.1 (subst (λ f. Keeps f before now) (sym is) (keeps_both None before mid now kept but out err))
  ends_run (Some file) is (Err refusal) promised caused kept but ends out err =
      refusal_runs refusal caused kept.names ends.0 ends.1 (subst (λ f. Keeps f before now) (sym is) (keeps_both (Some file) before mid now kept but out err))

-- ---- Each command

-- without a schedule the source is meant
source_meant : (refusal : Refusal) (source : List ℕ) → source ≡ fold_file refusal source None
source_meant (Unread operand.Schedule why) source = refl
source_meant _ source = refl

fold_caused : (source : List ℕ) (settings : Settings) (file : Option (List ℕ)) (before mid : FolderState) (made : Result Pieces Refusal) → IsReadInOrder (source ∷ []) before mid
    → IfErr made (λ refusal. FoldCause refusal source None settings before mid) → IfErr made (IsCaused (Fold source None settings file) source before mid)
fold_caused source settings file before mid (Ok text) reads cause = tt
fold_caused source settings file before mid (Err refusal) reads cause = (cause, reads, ap (line_of refusal) (source_meant refusal source))

fold_by_caused : (source schedule : List ℕ) (settings : Settings) (file : Option (List ℕ)) (name : List ℕ) (before mid : FolderState) (made : Result Pieces Refusal) → IsReadInOrder (source ∷ schedule ∷ []) before mid
    → IfErr made (λ refusal. FoldCause refusal source (Some schedule) settings before mid) → IfErr made (λ refusal. name ≡ fold_file refusal source (Some schedule))
    → IfErr made (IsCaused (Fold source (Some schedule) settings file) name before mid)
fold_by_caused source schedule settings file name before mid (Ok text) reads cause is = tt
fold_by_caused source schedule settings file name before mid (Err refusal) reads cause is = (cause, reads, ap (line_of refusal) is)

replay_caused : (source schedule certificate name : List ℕ) (before mid : FolderState) (made : Result Pieces Refusal) → IsReadInOrder (source ∷ schedule ∷ certificate ∷ []) before mid
    → IfErr made (λ refusal. ReplayCause refusal source schedule certificate before mid) → IfErr made (λ refusal. name ≡ replay_file refusal source schedule certificate)
    → IfErr made (IsCaused (Replay source schedule certificate) name before mid)
replay_caused source schedule certificate name before mid (Ok text) reads cause is = tt
replay_caused source schedule certificate name before mid (Err refusal) reads cause is = (cause, reads, ap (line_of refusal) is)

run_caused : (source feed : List ℕ) (limit : ℕ) (name : List ℕ) (before mid : FolderState) (made : Result Pieces Refusal) → IsReadInOrder (source ∷ feed ∷ []) before mid
    → IfErr made (λ refusal. RunCause refusal source feed limit before mid) → IfErr made (λ refusal. name ≡ file_of refusal source feed)
    → IfErr made (IsCaused (Run source feed limit) name before mid)
run_caused source feed limit name before mid (Ok text) reads cause is = tt
run_caused source feed limit name before mid (Err refusal) reads cause is = (cause, reads, ap (line_of refusal) is)

flow_caused : (source : List ℕ) (before mid : FolderState) (made : Result Pieces Refusal) → IsReadInOrder (source ∷ []) before mid
    → IfErr made (λ refusal. FlowCause refusal source before mid) → IfErr made (IsCaused (Flow source) source before mid)
flow_caused source before mid (Ok m) reads cause = tt
flow_caused source before mid (Err refusal) reads cause = (cause, reads, refl)

big_caused : (stages : ℕ) (before : FolderState) (made : Result Pieces Refusal) → IfErr made (BigCause stages) → IfErr made (IsCaused (Big stages) [] before before)
big_caused stages before (Ok m) cause = tt
big_caused stages before (Err refusal) cause = ((nothing_read before, cause), none_in_order [] before, refl)

big_promised : (stages : ℕ) (before : FolderState) (made : Result Pieces Refusal) → IfOk made (λ m. SumsUp stages m.text.items) → IfOk made (λ m. m.report.items ≡ [])
    → IfOk made (λ m. Promises (Big stages) before before m.certificate.items m.text.items m.report.items)
big_promised stages before (Ok m) sums none = record { reads = nothing_read before; sums_up = sums; no_report = none }
big_promised stages before (Err refusal) sums none = tt

pub fold_ends : (source : List ℕ) (settings : Settings) (file : Option (List ℕ)) (before : Outside) (mid : FolderState) (now : Outside) (status : ℕ) (made : Result Pieces Refusal)
    → IfOk made (λ m. FoldPromises source None settings file before.folder mid m.certificate.items m.text.items m.report.items)
    → IfErr made (λ refusal. FoldCause refusal source None settings before.folder mid) → IsReadInOrder (source ∷ []) before.folder mid → FolderKeeps before.folder mid → KeepsBut file mid now.folder
    → EndsWith file made source mid now.folder before.out now.out before.err now.err status → SinkCounts before.out now.out → SinkCounts before.err now.err
    → Runs (Fold source None settings file) before now status
fold_ends source settings file before mid now status made promised cause reads kept but ends out err =
    ends_run (Fold source None settings file) source before mid now status file refl made promised
    (fold_caused source settings file before.folder mid made reads cause) kept but ends out err

pub fold_by_ends : (source schedule : List ℕ) (settings : Settings) (file : Option (List ℕ)) (name : List ℕ) (before : Outside) (mid : FolderState) (now : Outside) (status : ℕ) (made : Result Pieces Refusal)
    → IfOk made (λ m. FoldPromises source (Some schedule) settings file before.folder mid m.certificate.items m.text.items m.report.items)
    → IfErr made (λ refusal. FoldCause refusal source (Some schedule) settings before.folder mid) → IsReadInOrder (source ∷ schedule ∷ []) before.folder mid
    → IfErr made (λ refusal. name ≡ fold_file refusal source (Some schedule)) → FolderKeeps before.folder mid → KeepsBut file mid now.folder
    → EndsWith file made name mid now.folder before.out now.out before.err now.err status → SinkCounts before.out now.out → SinkCounts before.err now.err
    → Runs (Fold source (Some schedule) settings file) before now status
fold_by_ends source schedule settings file name before mid now status made promised cause reads is kept but ends out err =
    ends_run (Fold source (Some schedule) settings file) name before mid now status file refl made promised
    (fold_by_caused source schedule settings file name before.folder mid made reads cause is) kept but ends out err

pub replay_ends : (source schedule certificate name : List ℕ) (before now : Outside) (status : ℕ) (made : Result Pieces Refusal)
    → IfOk made (λ m. ReplayPromises source schedule certificate before.folder now.folder m.text.items m.report.items)
    → IfErr made (λ refusal. ReplayCause refusal source schedule certificate before.folder now.folder)
    → IsReadInOrder (source ∷ schedule ∷ certificate ∷ []) before.folder now.folder
    → IfErr made (λ refusal. name ≡ replay_file refusal source schedule certificate) → FolderKeeps before.folder now.folder
    → Ends made name before.out now.out before.err now.err status → SinkCounts before.out now.out → SinkCounts before.err now.err
    → Runs (Replay source schedule certificate) before now status
replay_ends source schedule certificate name before now status made promised cause reads is kept ends out err =
    ends_run (Replay source schedule certificate) name before now.folder now status None refl made promised
    (replay_caused source schedule certificate name before.folder now.folder made reads cause is) kept (keeps_still now.folder) (refl, ends) out err

pub run_ends : (source feed : List ℕ) (limit : ℕ) (name : List ℕ) (before now : Outside) (status : ℕ) (made : Result Pieces Refusal)
    → IfOk made (λ m. RunPromises source feed limit before.folder now.folder m.text.items m.report.items)
    → IfErr made (λ refusal. RunCause refusal source feed limit before.folder now.folder)
    → IsReadInOrder (source ∷ feed ∷ []) before.folder now.folder → IfErr made (λ refusal. name ≡ file_of refusal source feed)
    → FolderKeeps before.folder now.folder → Ends made name before.out now.out before.err now.err status → SinkCounts before.out now.out → SinkCounts before.err now.err
    → Runs (Run source feed limit) before now status
run_ends source feed limit name before now status made promised cause reads is kept ends out err =
    ends_run (Run source feed limit) name before now.folder now status None refl made promised
    (run_caused source feed limit name before.folder now.folder made reads cause is) kept (keeps_still now.folder) (refl, ends) out err

pub flow_ends : (source : List ℕ) (before now : Outside) (status : ℕ) (made : Result Pieces Refusal)
    → IfOk made (λ m. FlowPromises source before.folder now.folder m.text.items m.report.items) → IfErr made (λ refusal. FlowCause refusal source before.folder now.folder)
    → IsReadInOrder (source ∷ []) before.folder now.folder → FolderKeeps before.folder now.folder → Ends made source before.out now.out before.err now.err status
    → SinkCounts before.out now.out → SinkCounts before.err now.err → Runs (Flow source) before now status
flow_ends source before now status made promised cause reads kept ends out err =
    ends_run (Flow source) source before now.folder now status None refl made promised
    (flow_caused source before.folder now.folder made reads cause) kept (keeps_still now.folder) (refl, ends) out err

pub big_ends : (stages : ℕ) (folder : FolderState) (out now_out err now_err : SinkState) (status : ℕ) (made : Result Pieces Refusal)
    → IfOk made (λ m. SumsUp stages m.text.items) → IfOk made (λ m. m.report.items ≡ []) → IfErr made (BigCause stages)
    → Ends made [] out now_out err now_err status → SinkCounts out now_out → SinkCounts err now_err → Runs (Big stages) (outside folder out err) (outside folder now_out now_err) status
big_ends stages folder out now_out err now_err status made sums none cause ends out_counts err_counts =
    ends_run (Big stages) [] (outside folder out err) folder (outside folder now_out now_err) status None refl made (big_promised stages folder made sums none)
    (big_caused stages folder made cause) (record { names = refl; faults = omega arith; shortages = omega arith }) (keeps_still folder) (refl, ends) out_counts err_counts

-- ---- Want of memory for the words

pub said : (refusal : Refusal) (before now : Outside) (status : ℕ) → status ≡ status_of refusal → now.folder ≡ before.folder → now.out ≡ before.out
    → Told before.err.taken before.err now.err (line_of refusal []) → Keeps None before now → IsSaid refusal before now status
said refusal before now status is folder out told keeps = record { is_status = is; keeps = keeps; folder = folder; out = out; told = told }

pub short_serves : (words : List (List ℕ)) (before now : Outside) (status : ℕ) → IsSaid Memory before now status → Serves words before now status
short_serves words before now status is = go (command_of words)
  where
    go : (o : Option Command) → MatchOption o (WordsRefused before now status) (λ command. Runs command before now status)
    go None = inr is
    go (Some command) = let nine : status ≡ 9 = is.is_status in record {
      answers = subst (Contains (statuses_of command)) (sym nine) (ends_with_9 command);
      keeps = keeps_any (written_file command) before now is.keeps;
      done = λ e. absurd (omega arith);
      short = λ _. inl (record {
        reads = subst (IsReadInOrder (names_of command) before.folder) (sym is.folder) (none_in_order (names_of command) before.folder);
        names = ap (λ (f : FolderState). f.held) is.folder;
        out = ap (λ (o : SinkState). o.taken) is.out;
        told = is.told;
      });
      failed = λ e. absurd (omega arith);
      refused = λ _ other _. absurd (other nine);
    }
