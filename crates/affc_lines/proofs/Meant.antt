-- What a source is refused for, from what its compilation said.
use Rattle.std.proofs.Common.{◌≡◌, ℕ, ℤ, List, Option, ap, ◌∙◌, inl, inr}
use Rattle.affc_ast.specs.declared.tree.Instance.{Instance}
use Rattle.affc_ast.specs.declared.tree.Program.{Program}
use Rattle.affc_grammar.specs.Reads.{Reads}
use Rattle.affc_bounds.specs.declared.fault.MeaningFault.{MeaningFault}
use Rattle.affc_bounds.specs.declared.fault.MeaningFault.TheVariants.{IteratorRange}
use Rattle.affc_schedtext.specs.declared.plan.SchedFault.{SchedFault}
use Rattle.affc_driver.specs.Refusals.{HasSchedFault, HasMeaningFault, HasUnwritten, IsIllegal}
use Rattle.affc_lines.specs.Meaning.{meaning_line, unwritten_line, IsMeantLine, IsRangeLine}
use Rattle.affc_lines.specs.Schedule.{sched_line, illegal_line, IsSchedLine, IsIllegalLine}

-- one text reads as one program
abbrev OneProgram : Type 0
OneProgram = (text : List ℕ) (a b : Program) → Reads text a → Reads text b → a ≡ b

-- the line is that of the program that the source reads as
pub ranged : (source : List ℕ) (schedule : Option (List ℕ)) (line : List ℕ) (statement loop : ℕ) (program : Program) → OneProgram
    → Reads source program → HasMeaningFault source schedule (IteratorRange statement loop) → line ≡ meaning_line program (IteratorRange statement loop) → IsRangeLine source schedule line
ranged source schedule line statement loop program law reads says is = record {
  statement = statement;
  loop = loop;
  says = says;
  its_line = is ∙ ap (λ t. meaning_line t (IteratorRange statement loop)) (law source program says.of.tree reads says.of.reads);
}

pub meant : (source : List ℕ) (schedule : Option (List ℕ)) (line : List ℕ) (fault : MeaningFault) (program : Program) → OneProgram
    → Reads source program → HasMeaningFault source schedule fault → line ≡ meaning_line program fault → IsMeantLine source schedule line
meant source schedule line fault program law reads says is = inl (record {
  fault = fault;
  says = says;
  its_line = is ∙ ap (λ t. meaning_line t fault) (law source program says.of.tree reads says.of.reads);
})

pub unwritten : (source : List ℕ) (schedule : Option (List ℕ)) (line : List ℕ) (access : ℕ) (p : List ℤ) (here : Instance) (program : Program) → OneProgram
    → Reads source program → (array : ℕ) × HasUnwritten source schedule array access p here → line ≡ unwritten_line program p here access → IsMeantLine source schedule line
unwritten source schedule line access p here program law reads has is = inr (record {
  array = has.0;
  access = access;
  p = p;
  instance = here;
  says = has.1;
  its_line = is ∙ ap (λ t. unwritten_line t p here access) (law source program has.1.of.tree reads has.1.of.reads);
})

pub unplanned : (source : List ℕ) (schedule : Option (List ℕ)) (line : List ℕ) (fault : SchedFault) (program : Program) → OneProgram
    → Reads source program → HasSchedFault source schedule fault → line ≡ sched_line program fault → IsSchedLine source schedule line
unplanned source schedule line fault program law reads has is = record {
  fault = fault;
  of = has;
  its_line = is ∙ ap (λ t. sched_line t fault) (law source program has.tree reads has.reads);
}

pub turned : (source : List ℕ) (schedule : Option (List ℕ)) (line : List ℕ) (p : List ℤ) (a b : Instance) (program : Program) → OneProgram
    → Reads source program → IsIllegal source schedule p a b → line ≡ illegal_line program p a b → IsIllegalLine source schedule line
turned source schedule line p a b program law reads says is = record {
  p = p;
  a = a;
  b = b;
  says = says;
  its_line = is ∙ ap (λ t. illegal_line t p a b) (law source program says.of.tree reads says.of.reads);
}
