use Rattle.affc_domain.proofs.ExampleProofs as x
use Rattle.affc_domain.proofs.examples.plain_programs.Goals as goal

pub returns : goal.returns
returns c = record { triangle_is_plain = x.triangle_is_plain; limits_of_programs = x.limits_of_programs; parts_of_programs = x.parts_of_programs; full_loops = x.full_loops; only_joined_tests = x.only_joined_tests }
