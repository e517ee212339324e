use Rattle.std.proofs.Common.{◌≡◌, Some, None, flat_map, sym, subst}
use Rattle.std.specs.Prelude.{IfSome, IfNone}
use Rattle.affc_life.specs.Drafts.{instance_named}
use Rattle.affc_flow.specs.Asked.{writers_of}
use Rattle.affc_questions.specs.Listed.{first_posed}
use Rattle.affc_questions.proofs.ListedLemmas.{found_first, found_later, if_some}
use Rattle.affc_questions.proofs.leaf.+named_among.Goals as goal

pub returns-in-Some-clause-some : goal.returns-in-Some-clause-some
returns-in-Some-clause-some t c =
    if_some c.named_among-found.result (λ w. first_posed (instance_named c.args.named.now) (flat_map (writers_of c.args.array) c.split_at.result.0.now) ≡ Some (w.entry.now, w.store.now))
    (λ w. first_posed (instance_named c.args.named.now) (flat_map (writers_of c.args.array) c.args.entries.now) ≡ Some (w.entry.now, w.store.now))
    (λ w e. found_first (instance_named c.args.named.now) c.args.array c.args.entries.now c.split_at.result.0.now c.split_at.result.1.now (w.entry.now, w.store.now) c.split_at.ensures.by_index.0 e) c.named_among-found.ensures.some

pub returns-in-None-clause-none : goal.returns-in-None-clause-none
returns-in-None-clause-none t c =
    subst (λ z. IfNone c.named_among.result (z ≡ None))
    (sym (found_later (instance_named c.args.named.now) c.args.array c.args.entries.now c.split_at.result.0.now c.split_at.result.1.now c.split_at.ensures.by_index.0
    (subst (λ o. IfNone o (first_posed (instance_named c.args.named.now) (flat_map (writers_of c.args.array) c.split_at.result.0.now) ≡ None)) c.in-None.is c.named_among-found.ensures.none)))
    c.named_among.ensures.none

pub returns-in-None-clause-some : goal.returns-in-None-clause-some
returns-in-None-clause-some t c =
    subst (λ z. IfSome c.named_among.result (λ w. z ≡ Some (w.entry.now, w.store.now)))
    (sym (found_later (instance_named c.args.named.now) c.args.array c.args.entries.now c.split_at.result.0.now c.split_at.result.1.now c.split_at.ensures.by_index.0
    (subst (λ o. IfNone o (first_posed (instance_named c.args.named.now) (flat_map (writers_of c.args.array) c.split_at.result.0.now) ≡ None)) c.in-None.is c.named_among-found.ensures.none)))
    c.named_among.ensures.some
