-- The pieces of a command, put whole or in part.
use Rattle.std.proofs.Common.{◌≡◌, ◌≢◌, ◌⊎◌, ◌<◌, ◌≤◌, ℕ, List, [], subst, Result, Ok, Err, length, take, refl, ap, sym, ◌∙◌, inl, inr, arith}
use Rattle.std.proofs.lemmas.List.{length-take}
use Rattle.affc_io.specs.Count.{Rose}
use Rattle.affc_io.specs.Files.{Holds, IsLeft}
use Rattle.affc_io.specs.State.{FolderState, SinkState, SinkCounts}
use Rattle.affc_io.specs.Taken.{grown}
use Rattle.affc_io.specs.declared.put.PutFault.{PutFault}
use Rattle.affc_lines.specs.Told.{Falters, Told}
use Rattle.affc_lines.specs.Lines.{line_of}
use Rattle.affc_cli.specs.Telling.{Reports, Puts, Ends, EndsFiled}
use Rattle.affc_cli.specs.declared.pieces.Pieces.{Pieces}
use Rattle.affc_lines.specs.declared.refusal.Refusal.{Refusal}
use Rattle.affc_lines.specs.declared.refusal.Refusal.TheVariants.{Memory as Short}
use Rattle.affc_lines.proofs.Telling.{front_of_put}

-- ---- A command's text, put whole or in part

-- a front that a put left off within the piece isn't the piece
cut_of : (fault : PutFault) (piece : List ℕ) → fault.written < length piece → take fault.written piece ≢ piece
cut_of fault piece within e = let same : length (take fault.written piece) ≡ length piece = ap length e in absurd (omega (arith, same, length-take fault.written piece, within))

pub failed_puts : (text report : List ℕ) (fault : PutFault) (out now_out err : SinkState) → now_out.taken ≡ grown out.taken (take fault.written text) → fault.written < length text
    → Rose out.faults now_out.faults → Puts text report out now_out err err 10
failed_puts text report fault out now_out err took within failed = inr (inr (record {
  is_status = refl;
  front = take fault.written text;
  is_front = front_of_put {T = ℕ} (Err fault) text;
  cut = cut_of fault text within;
  taken = took;
  fault = failed;
  silent = refl;
}))

pub short_puts : (text report : List ℕ) (fault : PutFault) (out now_out err now_err : SinkState) (status : ℕ) → now_out.taken ≡ grown out.taken (take fault.written text)
    → fault.written < length text → Rose out.shortages now_out.shortages → status ≡ 9 → Told err.taken err now_err (line_of Short []) → Puts text report out now_out err now_err status
short_puts text report fault out now_out err now_err status took within short is_status told = inr (inl (record {
  is_status = is_status;
  front = take fault.written text;
  is_front = front_of_put {T = ℕ} (Err fault) text;
  cut = cut_of fault text within;
  taken = took;
  short = short;
  told = told;
}))

-- the text was put whole, and then the report in some way
pub whole_puts : (text report : List ℕ) (out now_out err now_err : SinkState) (status : ℕ) → now_out.taken ≡ grown out.taken text → Reports report err now_err status
    → Puts text report out now_out err now_err status
whole_puts text report out now_out err now_err status took reports = inl (record { taken = took; reports = reports })

-- the pieces of a command were put in some way
pub pieces_end : (made : Result Pieces Refusal) (pieces : Pieces) (name text report : List ℕ) (out now_out err now_err : SinkState) (status : ℕ) → made ≡ Ok pieces
    → text ≡ pieces.text.items → report ≡ pieces.report.items → Puts text report out now_out err now_err status → Ends made name out now_out err now_err status
pieces_end made pieces name text report out now_out err now_err status is same same_report puts =
    subst (λ m. Ends m name out now_out err now_err status) (sym is)
    (subst (λ t. Puts t pieces.report.items out now_out err now_err status) same (subst (λ r. Puts text r out now_out err now_err status) same_report puts))

-- ---- A file that is written first

module _ (made : Result Pieces Refusal) (pieces : Pieces) (file name certificate : List ℕ) (folder now : FolderState) (is : made ≡ Ok pieces) (same : certificate ≡ pieces.certificate.items) where
  pub filed_end : (text report : List ℕ) (out now_out err now_err : SinkState) (status : ℕ) → text ≡ pieces.text.items → report ≡ pieces.report.items
      → Holds now.held file certificate → Puts text report out now_out err now_err status → EndsFiled made file name folder now out now_out err now_err status
  filed_end text report out now_out err now_err status same_text same_report holds puts =
      subst (λ m. EndsFiled m file name folder now out now_out err now_err status) (sym is) (inl (record {
        filed = subst (Holds now.held file) same holds;
        puts = subst (λ t. Puts t pieces.report.items out now_out err now_err status) same_text (subst (λ r. Puts text r out now_out err now_err status) same_report puts);
      }))

  pub filing_failed_end : (out err : SinkState) → IsLeft folder.held now.held file certificate → Rose folder.faults now.faults → EndsFiled made file name folder now out out err err 10
  filing_failed_end out err left fault =
      subst (λ m. EndsFiled m file name folder now out out err err 10) (sym is) (inr (inr (record {
        is_status = refl;
        left = subst (IsLeft folder.held now.held file) same left;
        fault = fault;
        untouched = refl;
        silent = refl;
      })))

  pub filing_short_end : (out err now_err : SinkState) (status : ℕ) → IsLeft folder.held now.held file certificate → Rose folder.shortages now.shortages
      → status ≡ 9 → Told err.taken err now_err (line_of Short []) → EndsFiled made file name folder now out out err now_err status
  filing_short_end out err now_err status left short is_status told =
      subst (λ m. EndsFiled m file name folder now out out err now_err status) (sym is) (inr (inl (record {
        is_status = is_status;
        left = subst (IsLeft folder.held now.held file) same left;
        short = short;
        untouched = refl;
        told = told;
      })))

-- ---- A report, put whole or in part

pub whole_reports : (report : List ℕ) (err now_err : SinkState) → now_err.taken ≡ grown err.taken report → Reports report err now_err 0
whole_reports report err now_err took = inl (record { is_status = refl; taken = took })

pub failed_reports : (report : List ℕ) (fault : PutFault) (err now_err : SinkState) → now_err.taken ≡ grown err.taken (take fault.written report) → fault.written < length report
    → Rose err.faults now_err.faults → Reports report err now_err 10
failed_reports report fault err now_err took within failed = inr (inr (record {
  is_status = refl;
  front = take fault.written report;
  is_front = front_of_put {T = ℕ} (Err fault) report;
  cut = cut_of fault report within;
  fault = failed;
  taken = took;
}))

-- of two calls in a row, where the count rose in the first
rose_before : (a b c : ℕ) → Rose a b → b ≤ c → Rose a c
rose_before a b c rose le = λ below. let higher : a < b = rose (omega arith) in omega arith

pub short_reports : (report : List ℕ) (fault : PutFault) (err mid now_err : SinkState) (status : ℕ) → mid.taken ≡ grown err.taken (take fault.written report) → fault.written < length report
    → Rose err.shortages mid.shortages → SinkCounts mid now_err → status ≡ 9 → Told mid.taken mid now_err (line_of Short []) → Reports report err now_err status
short_reports report fault err mid now_err status took within short counts is told =
    let rose : Rose err.shortages now_err.shortages = rose_before err.shortages mid.shortages now_err.shortages short counts.shortages in
    inr (inl (record {
      is_status = is;
      front = take fault.written report;
      is_front = front_of_put {T = ℕ} (Err fault) report;
      cut = cut_of fault report within;
      short = rose;
      told = record { front = told.front; is_front = told.is_front; taken = told.taken ∙ ap (λ o. grown o told.front) took; whole = still told.whole rose };
    }))
  where
    still : (told.front ≡ line_of Short []) ⊎ Falters mid now_err → Rose err.shortages now_err.shortages → (told.front ≡ line_of Short []) ⊎ Falters err now_err
    still (inl e) rose = inl e
    still (inr f) rose = inr (inr rose)
