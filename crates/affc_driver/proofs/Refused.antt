-- What each refusal says of all texts of a program.
use Rattle.std.proofs.Common.{◌≡◌, ◌≢◌, ◌∙◌, ℕ, ℤ, List, Option, None, refl, ap, subst}
use Rattle.affc_ast.specs.declared.tree.Instance.{Instance}
use Rattle.affc_ast.specs.declared.tree.Program.{Program}
use Rattle.affc_domain.specs.Plain.{IsPlain}
use Rattle.affc_nest.specs.declared.nest.Nest.{Nest}
use Rattle.affc_nest.specs.Laws.{NamesArrays}
use Rattle.affc_nest.specs.Nests.{nest_of}
use Rattle.affc_bounds.specs.Faults.{StaysWithin, IsMeaningFault}
use Rattle.affc_bounds.specs.declared.fault.MeaningFault.{MeaningFault}
use Rattle.affc_schedtext.specs.declared.plan.Plan.{Plan}
use Rattle.affc_schedtext.specs.declared.plan.SchedFault.{SchedFault}
use Rattle.affc_schedtext.specs.declared.plan.SchedFault.TheVariants.{Memory}
use Rattle.affc_schedtext.specs.Answers.{IsFault}
use Rattle.affc_legal.specs.Legal.{IsFor, IsFirstIllegal}
use Rattle.affc_sched.specs.Legality.{IsAsked}
use Rattle.affc_ast.specs.declared.tree.ArrayId.{ArrayId}
use Rattle.affc_latest.specs.Stores.{IsNamedNest}
use Rattle.affc_dataflow.specs.Unwritten.{IsUnwritten}
use Rattle.affc_driver.specs.Compilations.{IsCompilation}
use Rattle.affc_driver.specs.Plans.{HasPlan, as_it_stands, WrittenThroughout}
use Rattle.affc_quast.specs.Limits.{narrow, AreTreesWithin}
use Rattle.affc_quast.specs.Trees.{Tree}
use Rattle.affc_dataflow.specs.Finds.{AreInputs}
use Rattle.affc_report.specs.Trees.{flow_text}
use Rattle.affc_schedtext.specs.Outline.{outline}
use Rattle.affc_driver.specs.Flows.{NameThroughout, FlowsTo}
use Rattle.affc_driver.specs.Programs.{OfEachText, OfEachPlan}
use Rattle.affc_driver.specs.Refusals.{RefusalSays, FlowRefusalSays, MeaningSays, IsPlanned, UnreadSays, refusal_of}
use Rattle.affc_driver.specs.declared.refusal.Refusal.{Refusal}
use Rattle.affc_driver.specs.declared.refusal.Refusal.TheVariants.{Source, Printed, Schedule as NoPlan, Meaning, Unwritten, Illegal, Budget, Memory as Short}
use Rattle.affc_driver.specs.declared.unread.Unread.{Unread}
use Rattle.affc_driver.specs.declared.unread.Unread.TheVariants as unread

abbrev pub planned : (program : Program) (plan : Plan) (schedule : Option (List ℕ)) → HasPlan program schedule plan → OfEachText program (λ text. IsPlanned text schedule)
planned program plan schedule has text reads bare = record { tree = program; reads = reads; plain = bare; plan = plan; planned = has }

pub meant : (program : Program) (fault : MeaningFault) → IsMeaningFault program fault
    → (plan : Plan) → OfEachPlan program plan (λ source schedule. MeaningSays source schedule (Meaning fault))
meant program fault is plan schedule has source reads bare = record { of = planned program plan schedule has source reads bare; is_fault = is }

pub unwritten : (program : Program) (nest : Nest) (array : ArrayId) (access : ℕ) (p : List ℤ) (b : Instance) → IsPlain program → NamesArrays program → nest ≡ nest_of program → StaysWithin program → IsUnwritten nest array.0 access p b
    → (plan : Plan) → OfEachPlan program plan (λ source schedule. MeaningSays source schedule (Unwritten array access p b))
unwritten program nest array access p b plain names is within shown plan schedule has source reads bare =
    record { of = planned program plan schedule has source reads bare; within = within; loads = shown program is (record { plain = plain; near = within.near }) names }

-- what is wrong with a program refuses its compilation, and its trees
pub refuses : (source : List ℕ) (schedule : Option (List ℕ)) (refusal : Refusal) → MeaningSays source schedule refusal → RefusalSays source schedule refusal
refuses source schedule (Source fault) h = absurd h
refuses source schedule (Printed place) h = absurd h
refuses source schedule (NoPlan fault) h = absurd h
refuses source schedule (Meaning fault) h = h
refuses source schedule (Unwritten array access p b) h = h
refuses source schedule (Illegal p a b) h = absurd h
refuses source schedule Budget h = tt
refuses source schedule Short h = tt

pub refuses_each : (program : Program) (plan : Plan) (refusal : Refusal) → ((plan : Plan) → OfEachPlan program plan (λ source schedule. MeaningSays source schedule refusal))
    → OfEachPlan program plan (λ source schedule. RefusalSays source schedule refusal)
refuses_each program plan refusal h schedule has source reads bare = refuses source schedule refusal (h plan schedule has source reads bare)

refuses_trees : (source : List ℕ) (refusal : Refusal) → MeaningSays source None refusal → FlowRefusalSays source refusal
refuses_trees source (Source fault) h = absurd h
refuses_trees source (Printed place) h = absurd h
refuses_trees source (NoPlan fault) h = absurd h
refuses_trees source (Meaning fault) h = h
refuses_trees source (Unwritten array access p b) h = h
refuses_trees source (Illegal p a b) h = absurd h
refuses_trees source Budget h = tt
refuses_trees source Short h = tt

pub refuses_each_tree : (program : Program) (refusal : Refusal) → ((plan : Plan) → OfEachPlan program plan (λ source schedule. MeaningSays source schedule refusal))
    → OfEachText program (λ source. FlowRefusalSays source refusal)
refuses_each_tree program refusal h source reads bare = refuses_trees source refusal (h as_it_stands None refl source reads bare)

-- a source that isn't read is neither compiled nor asked for its trees
pub unread_refuses : (source : List ℕ) (schedule : Option (List ℕ)) (fault : Unread) → UnreadSays source fault → RefusalSays source schedule (refusal_of fault)
unread_refuses source schedule (unread.Source fault) h = h
unread_refuses source schedule (unread.Printed place) h = h
unread_refuses source schedule unread.Memory h = tt

-- what dataflow is asked of
pub named_nest : (program : Program) (nest : Nest) → IsPlain program → NamesArrays program → nest ≡ nest_of program → StaysWithin program → IsNamedNest nest
named_nest program nest plain names is within = record { program = program; has = record { plain = plain; near = within.near }; is = is; named = names }

-- what legality is asked of
pub asked : (program : Program) (nest : Nest) (plan : Plan) → IsCompilation program nest plan → IsAsked nest plan.schedule
asked program nest plan c = record {
  scheduled = record {
    program = program;
    has = record { plain = c.plain; near = c.within.near };
    is = c.is;
    fits = c.fits;
    slight = c.slight;
  };
  named = c.arrays;
}

pub asked_for : (program : Program) (nest : Nest) (plan : Plan) → IsCompilation program nest plan → IsFor program nest plan.schedule
asked_for program nest plan c = record {
  has = record { plain = c.plain; near = c.within.near };
  named = c.arrays;
  is = c.is;
  fits = c.fits;
}

pub turned : (program : Program) (nest : Nest) (plan : Plan) (p : List ℤ) (a b : Instance) → IsCompilation program nest plan → OfEachText program (λ text. WrittenThroughout program)
    → IsFirstIllegal nest plan.schedule p a b → OfEachPlan program plan (λ source schedule. RefusalSays source schedule (Illegal p a b))
turned program nest plan p a b c written first schedule has source reads bare = record {
  of = planned program plan schedule has source reads bare;
  within = c.within;
  written = written source reads bare;
  first = first program (asked_for program nest plan c);
}

-- what the text of trees tells
pub told_trees : (program : Program) (nest : Nest) (trees : List Tree) (text : List ℕ) → nest ≡ nest_of program → StaysWithin program → NameThroughout program trees
    → AreTreesWithin narrow 302 12 nest trees → AreInputs nest trees → text ≡ flow_text (outline program) nest trees → OfEachText program (λ source. FlowsTo source text)
told_trees program nest trees text is within named limits inputs told source reads bare = record {
  program = program;
  reads = reads;
  plain = bare;
  within = within;
  trees = trees;
  named = named;
  limits = subst (λ n. AreTreesWithin narrow 302 12 n trees) is limits;
  inputs = subst (λ n. AreInputs n trees) is inputs;
  told = told ∙ ap (λ n. flow_text (outline program) n trees) is;
}
