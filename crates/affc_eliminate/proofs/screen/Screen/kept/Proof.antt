-- The field says only that a proof of `takes` exists. An entailment is a proposition, so the proof may be opened in front of the walk that Rattle made.
use seplogic.Bi.Basic.{Entails-prop}
use mathlib.Core.Logic.{∥∥₁_elim}
use base.Logic.{via, mono_r}
use denote.Triple.Entry.{on_entry}
use borrow.Fn.Kinds.{sig_of}
use contract.Monad.{fact_mono}
use Rattle.affc_eliminate.specs.Screens.{TakesForms}
use Rattle.affc_eliminate.proofs.screen.Screen.kept.Statement.{statement}
use Rattle.affc_eliminate.proofs.screen.Screen.kept.Lts as lts
use Rattle.affc_eliminate.proofs.screen.Screen.kept.Reads as reads
use Rattle.affc_eliminate.proofs.screen.Screen.kept.Tie as tie

pub kept_spec : {M : Type 1} → statement M
kept_spec {M} =
    tie.close (λ F LF g d dd w met dropped 𝓤 𝓛 𝓣 y.
    ∥∥₁_elim y.0.3.0.now.takes (Entails-prop 𝓤.op _ _) (λ can.
    via 𝓤 _ (mono_r 𝓤 (on_entry 𝓛 (sig_of 2 (lts.ps F LF g d dd) (lts.r F LF g d dd)) y.0.0 y.0.1 y.0.3 y.0.4) (fact_mono 𝓤 _ (TakesForms (g.takes y.0.3.0.now.test)) (λ _. can)))
    (lts.spec F LF g d dd (λ κs a. TakesForms (g.takes a.0.now.test)) (reads.Post F LF g d dd) (λ c. c.requires) 𝓤 𝓛 𝓣 y)))
