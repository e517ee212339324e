-- One after another, up to the first that is refused.
use Rattle.std.proofs.Common.{◌≡◌, ℕ, suc, ◌+◌, ◌<◌, List, [], ◌∷◌, ◌++◌, length, get_or, take, drop, take-suc, map, Ok, Err, refl, sym, ap, ◌∙◌, drop-cons, add-one}
use Rattle.std.proofs.lemmas.List.{map-append, take-append-drop, length-map}
use Rattle.affc_grammar.specs.Names.{Checked, Refusal, ◌>>=◌, each}
use Rattle.affc_names.specs.declared.fault.NameFault.{NameFault}
use Rattle.affc_names.specs.declared.fault.NameFault.TheVariants.{Memory, Refused}
use Rattle.affc_names.specs.Gives.{Fails}

pub ruleset lengths = (length-map)

each-append : {A B : Type 0} (f : A → Checked B) (xs ys : List A) → each f (xs ++ ys) ≡ each f xs >>= (λ as'. each f ys >>= (λ bs. Ok (as' ++ bs)))
each-append f [] ys = same_again (each f ys)
  where
    same_again : {B : Type 0} (m : Checked (List B)) → m ≡ m >>= (λ bs. Ok bs)
    same_again (Ok bs) = refl
    same_again (Err r) = refl
each-append {A} {B} f (x ∷ xs) ys = by (f x) (each f (xs ++ ys)) (each f xs) (each f ys) (each-append f xs ys)
  where
    by : (m : Checked B) (n p q : Checked (List B)) → n ≡ p >>= (λ as'. q >>= (λ bs. Ok (as' ++ bs)))
        → m >>= (λ b. n >>= (λ bs. Ok (b ∷ bs))) ≡ (m >>= (λ b. p >>= (λ bs. Ok (b ∷ bs)))) >>= (λ as'. q >>= (λ bs. Ok (as' ++ bs)))
    by (Err r) n p q e = refl
    by (Ok b) n p q e = ap (λ l. l >>= (λ bs. Ok (b ∷ bs))) e ∙ further p q
      where
        further : (p q : Checked (List B)) → (p >>= (λ as'. q >>= (λ bs. Ok (as' ++ bs)))) >>= (λ bs. Ok (b ∷ bs)) ≡ (p >>= (λ bs. Ok (b ∷ bs))) >>= (λ as'. q >>= (λ bs. Ok (as' ++ bs)))
        further (Err r) q = refl
        further (Ok as') (Err r) = refl
        further (Ok as') (Ok bs) = refl

pub taken : {C : Type 0} (cs : List C) (i : ℕ) (c : C) → i < length cs → c ≡ get_or cs i c → take (i + 1) cs ≡ take i cs ++ c ∷ []
taken cs i c lt is = ap (λ n. take n cs) (add-one i) ∙ take-suc cs i c lt ∙ ap (λ x. take i cs ++ x ∷ []) (sym is)

pub whole : {C : Type 0} (cs : List C) (i : ℕ) (c : C) → i < length cs → c ≡ get_or cs i c → cs ≡ take i cs ++ c ∷ drop (suc i) cs
whole cs i c lt is = sym (take-append-drop i cs) ∙ ap (λ l. take i cs ++ l) (drop-cons cs i c lt) ∙ ap (λ x. take i cs ++ x ∷ drop (suc i) cs) (sym is)

pub each_turn : {C D E T : Type 0} (f : E → Checked T) (g : D → E) (h : C → D) (cs : List C) (i : ℕ) (c : C) (done : List T) (t : T) → i < length cs → c ≡ get_or cs i c
    → each f (map g (map h (take i cs))) ≡ Ok done → f (g (h c)) ≡ Ok t → each f (map g (map h (take (i + 1) cs))) ≡ Ok (done ++ t ∷ [])
each_turn f g h cs i c done t lt is before here =
    ap (λ l. each f (map g (map h l))) (taken cs i c lt is)
    ∙ ap (λ l. each f (map g l)) (map-append h (take i cs) (c ∷ []))
    ∙ ap (each f) (map-append g (map h (take i cs)) (h c ∷ []))
    ∙ each-append f (map g (map h (take i cs))) (g (h c) ∷ [])
    ∙ ap (λ m. m >>= (λ as'. (f (g (h c)) >>= (λ b. Ok (b ∷ []))) >>= (λ bs. Ok (as' ++ bs)))) before
    ∙ ap (λ m. (m >>= (λ b. Ok (b ∷ []))) >>= (λ bs. Ok (done ++ bs))) here

refused : {C D E T : Type 0} (f : E → Checked T) (g : D → E) (h : C → D) (cs : List C) (i : ℕ) (c : C) (done : List T) (r : Refusal) → i < length cs → c ≡ get_or cs i c
    → each f (map g (map h (take i cs))) ≡ Ok done → f (g (h c)) ≡ Err r → each f (map g (map h cs)) ≡ Err r
refused f g h cs i c done r lt is before here =
    let rest = map g (map h (drop (suc i) cs)) in
    ap (λ l. each f (map g (map h l))) (whole cs i c lt is)
    ∙ ap (λ l. each f (map g l)) (map-append h (take i cs) (c ∷ drop (suc i) cs))
    ∙ ap (each f) (map-append g (map h (take i cs)) (h c ∷ map h (drop (suc i) cs)))
    ∙ each-append f (map g (map h (take i cs))) (g (h c) ∷ rest)
    ∙ ap (λ m. m >>= (λ as'. (f (g (h c)) >>= (λ b. each f rest >>= (λ bs. Ok (b ∷ bs)))) >>= (λ bs. Ok (as' ++ bs)))) before
    ∙ ap (λ m. (m >>= (λ b. each f rest >>= (λ bs. Ok (b ∷ bs)))) >>= (λ bs. Ok (done ++ bs))) here

pub each_stops : {C D E T : Type 0} (f : E → Checked T) (g : D → E) (h : C → D) (cs : List C) (i : ℕ) (c : C) (done : List T) (fault : NameFault) → i < length cs → c ≡ get_or cs i c
    → each f (map g (map h (take i cs))) ≡ Ok done → Fails fault (f (g (h c))) → Fails fault (each f (map g (map h cs)))
each_stops f g h cs i c done Memory lt is before here = tt
each_stops f g h cs i c done (Refused at why) lt is before here = refused f g h cs i c done (record { at = at; why = why }) lt is before here
