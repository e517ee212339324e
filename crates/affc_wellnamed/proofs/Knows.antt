-- What is known of a place in a tree, the names that are printed there, and those that are visible where a text is read.
use Rattle.std.proofs.Common.{◌≡◌, ◌⊎◌, inl, inr, ℕ, zero, suc, ◌+◌, ◌<◌, ◌&&◌, ◌||◌, Bool, true, false, not, List, [], ◌∷◌, ◌++◌, length, Option, Some, None, is_some, unwrap_or, refl, sym, ap, subst, ◌∙◌, arith, length-append, count_by, if◌then◌else◌}
use Rattle.std.specs.List.{find, slice_get}
use Rattle.std.proofs.lemmas.Bool.{and_parts, and_from, false≢true}
use Rattle.affc_lex.specs.Bytes.{same}
use Rattle.affc_lex.specs.Pieces.{is_word}
use Rattle.affc_ast.specs.Names.{is_reserved}
use Rattle.affc_ast.specs.declared.tree.Role.{Role}
use Rattle.affc_ast.specs.declared.tree.Decl.{Decl}
use Rattle.affc_grammar.specs.declared.fault.NameWhy.TheVariants.{Twice, Reserved}
use Rattle.affc_grammar.specs.Grammar.{Name}
use Rattle.affc_grammar.specs.Printed.{Names, number_name, array_name, and_number, and_array_name}
use Rattle.affc_grammar.specs.Names.{Thing, number, array, Scope, first_reason, thing_of, is_number_thing, is_array_thing, is_time_name, with_thing, with_number, with_array, is_refused_word, why_declared}
use Rattle.affc_wellnamed.specs.Known.{Known, is_refused, is_new}
use Rattle.affc_cprint.proofs.Spelled.{off}
use Rattle.affc_cprint.proofs.Sees.{declared_none, Sees, new_or_old, sees_number, sees_array}
use Rattle.affc_cprint.proofs.Visible.{IsVisible, other_thing, new_is_seen, declared_apart, some_true}

pub two_reasons : (a b : Bool) → a ≡ false → b ≡ false → first_reason ((a, Twice) ∷ (b, Reserved) ∷ []) ≡ None
two_reasons true b p q = absurd (false≢true (sym p))
two_reasons false true p q = absurd (false≢true (sym q))
two_reasons false false p q = refl

-- ---- The relation

-- the name stands for this number, and for this array
pub record NumberAt (scope : Scope) (w : Name) (id : ℕ) : Type 0 where
  pub it : Bool
  pub found : thing_of scope w ≡ Some (number id it)
  pub free : is_refused_word scope it w ≡ false
  pub word : is_word w ≡ true

pub record ArrayAt (scope : Scope) (w : Name) (id : ℕ) (role : Role) (n : ℕ) : Type 0 where
  pub found : thing_of scope w ≡ Some (array id role n)
  pub free : is_refused_word scope false w ≡ false
  pub word : is_word w ≡ true

pub record ArrayOf (arrays : List Decl) (id : ℕ) (role : Role) (n : ℕ) : Type 0 where
  pub decl : Decl
  pub is_there : slice_get arrays id ≡ Some decl
  pub its_role : decl.role ≡ role
  pub dimensions : length decl.extents ≡ n

pub record Knows (known : Known) (scope : Scope) (names : Names) : Type 0 where
  pub sees : Sees scope names
  pub taken : (w : Name) → known.is_taken w ≡ is_some (thing_of scope w)
  pub numbers : known.numbers ≡ length names.numbers
  pub arrays : length known.arrays ≡ length names.arrays
  pub number_at : (id : ℕ) → id < length names.numbers → NumberAt scope (number_name names (record { 0 = id })) id
  pub array_at : (id : ℕ) (d : Decl) → slice_get known.arrays id ≡ Some d → ArrayAt scope (array_name names (record { 0 = id })) id d.role (length d.extents)
  pub array_of : (w : Name) (id : ℕ) (role : Role) (n : ℕ) → thing_of scope w ≡ Some (array id role n) → ArrayOf known.arrays id role n

-- ---- Names that may be declared

refused_is : (scope : Scope) (prelude it : Bool) (w : Name) → scope.has_prelude ≡ prelude → is_refused prelude it w ≡ is_refused_word scope it w
refused_is scope prelude it w e = ap (λ b. is_reserved w && not (it && b && is_time_name w)) (sym e)

module _ (known : Known) (scope : Scope) (names : Names) (k : Knows known scope names) (same_prelude : scope.has_prelude ≡ known.prelude) where
  pub new_is : (it : Bool) (w : Name) → is_new known it w ≡ true → (is_word w ≡ true) × (why_declared scope it w ≡ None)
  new_is it w h =
      let p = and_parts (is_word w && not (is_refused known.prelude it w)) (not (known.is_taken w)) h in
      let q = and_parts (is_word w) (not (is_refused known.prelude it w)) p.0 in
      (q.0, two_reasons (is_some (thing_of scope w)) (is_refused_word scope it w) (sym (k.taken w) ∙ off (known.is_taken w) p.1) (sym (refused_is scope known.prelude it w same_prelude) ∙ off (is_refused known.prelude it w) q.1))

  pub new_from : (it : Bool) (w : Name) → is_word w ≡ true → why_declared scope it w ≡ None → is_new known it w ≡ true
  new_from it w word declared =
      let d = declared_none scope it w declared in
      and_from _ _ (and_from _ _ word (ap not (refused_is scope known.prelude it w same_prelude ∙ d.1))) (ap not (k.taken w ∙ d.0))

-- ---- One more name

seen_with : (scope : Scope) (w v : Name) (thing : Thing) → is_some (thing_of (with_thing scope w thing) v) ≡ (same w v || is_some (thing_of scope v))
seen_with scope w v thing = of (same w v)
  where
    of : (b : Bool) → is_some (elim (if b then Some (record { name = w; thing = thing }) else find (λ x. same x.name v) scope.visible) as (λ x. Option Thing) [ None ↦ None | Some x ↦ Some x.thing ]) ≡ (b || is_some (thing_of scope v))
    of true = refl
    of false = refl

get_some : (xs : List Name) (i : ℕ) → i < length xs → (w : Name) × (slice_get xs i ≡ Some w)
get_some [] i h = absurd (omega (arith, h))
get_some (x ∷ xs) zero h = (x, refl)
get_some (x ∷ xs) (suc i) h = get_some xs i (omega (arith, h))

get_front : {A : Type 0} (xs ys : List A) (i : ℕ) (w : A) → slice_get xs i ≡ Some w → slice_get (xs ++ ys) i ≡ Some w
get_front [] ys i w e = absurd (cc)
get_front (x ∷ xs) ys zero w e = e
get_front (x ∷ xs) ys (suc i) w e = get_front xs ys i w e

get_end : {A : Type 0} (xs : List A) (w : A) → slice_get (xs ++ w ∷ []) (length xs) ≡ Some w
get_end [] w = refl
get_end (x ∷ xs) w = get_end xs w

-- what stands in a list with one more is the one, or stood there before
front_or_end : {A : Type 0} (xs : List A) (x y : A) (i : ℕ) → slice_get (xs ++ x ∷ []) i ≡ Some y → ((i ≡ length xs) × (x ≡ y)) ⊎ (slice_get xs i ≡ Some y)
front_or_end [] x y zero e = inl (refl, cc)
front_or_end [] x y (suc i) e = absurd (cc)
front_or_end (z ∷ xs) x y zero e = inr e
front_or_end (z ∷ xs) x y (suc i) e = elim (front_or_end xs x y i e) [ inl p ↦ inl (ap suc p.0, p.1) | inr p ↦ inr p ]

older_or_last : (n i : ℕ) → i < n + 1 → (i < n) ⊎ (i ≡ n)
older_or_last zero zero h = inr refl
older_or_last zero (suc i) h = absurd (omega (arith, h))
older_or_last (suc n) zero h = inl (omega arith)
older_or_last (suc n) (suc i) h = elim (older_or_last n i (omega (arith, h))) [ inl p ↦ inl (omega (arith, p)) | inr p ↦ inr (ap suc p) ]

visible_number : (scope : Scope) (w : Name) (id : ℕ) → NumberAt scope w id → IsVisible scope w
visible_number scope w id n = some_true (thing_of scope w) _ n.found

number_kept : (scope : Scope) (it : Bool) (v w : Name) (thing : Thing) (id : ℕ) → why_declared scope it v ≡ None → NumberAt scope w id → NumberAt (with_thing scope v thing) w id
number_kept scope it v w thing id declared n = record {
  it = n.it;
  found = other_thing scope v w thing (declared_apart scope it v w declared (visible_number scope w id n)).0 ∙ n.found;
  free = n.free;
  word = n.word;
}

array_kept : (scope : Scope) (it : Bool) (v w : Name) (thing : Thing) (id : ℕ) (role : Role) (n : ℕ) → why_declared scope it v ≡ None → ArrayAt scope w id role n → ArrayAt (with_thing scope v thing) w id role n
array_kept scope it v w thing id role n declared a = record {
  found = other_thing scope v w thing (declared_apart scope it v w declared (some_true (thing_of scope w) _ a.found)).0 ∙ a.found;
  free = a.free;
  word = a.word;
}

module _ (known more : Known) (scope : Scope) (names : Names) (k : Knows known scope names) (w : Name) (it : Bool) (word : is_word w ≡ true) (declared : why_declared scope it w ≡ None)
    (taken : (v : Name) → more.is_taken v ≡ (same w v || known.is_taken v)) where
  taken_more : (thing : Thing) (v : Name) → more.is_taken v ≡ is_some (thing_of (with_thing scope w thing) v)
  taken_more thing v = taken v ∙ ap (λ b. same w v || b) (k.taken v) ∙ sym (seen_with scope w v thing)

  pub knows_number : more.numbers ≡ known.numbers + 1 → more.arrays ≡ known.arrays → Knows more (with_number it scope w) (and_number names w)
  knows_number count arrays =
      let sees = sees_number it scope names w k.sees in
      let long = length-append names.numbers (w ∷ []) in
      let numbers = k.numbers in
      record {
        sees = sees;
        taken = taken_more _;
        numbers = omega (arith, count, long, numbers);
        arrays = ap length arrays ∙ k.arrays;
        number_at = λ id lt. number_there id (older_or_last (length names.numbers) id (omega (arith, lt, long)));
        array_at = λ id d e. array_kept scope it w (array_name names (record { 0 = id })) _ id d.role (length d.extents) declared (k.array_at id d (ap (λ l. slice_get l id) (sym arrays) ∙ e));
        array_of = λ v id role n e. subst (λ l. ArrayOf l id role n) (sym arrays) (array_there v id role n (new_or_old scope w v _ (array id role n) e));
      }
    where
      number_there : (id : ℕ) → (id < length names.numbers) ⊎ (id ≡ length names.numbers) → NumberAt (with_number it scope w) (number_name (and_number names w) (record { 0 = id })) id
      number_there id (inl lt) =
          let g = get_some names.numbers id lt in
          let same_name : number_name (and_number names w) (record { 0 = id }) ≡ number_name names (record { 0 = id }) = ap (λ o. unwrap_or o []) (get_front names.numbers (w ∷ []) id g.0 g.1) ∙ ap (λ o. unwrap_or o []) (sym g.1) in
          subst (λ v. NumberAt (with_number it scope w) v id) (sym same_name) (number_kept scope it w (number_name names (record { 0 = id })) _ id declared (k.number_at id lt))
      number_there id (inr e) =
          let count : ◌≡◌ {A = Thing} (number (count_by is_number_thing scope.visible) it) (number id it) = ap (λ n. number n it) (k.sees.number_count ∙ sym e) in
          let its_name : w ≡ number_name (and_number names w) (record { 0 = id }) = ap (λ o. unwrap_or o []) (sym (get_end names.numbers w)) ∙ ap (λ n. unwrap_or (slice_get (names.numbers ++ w ∷ []) n) []) (sym e) in
          subst (λ v. NumberAt (with_number it scope w) v id) its_name (record { it = it; found = new_is_seen scope w _ ∙ ap (λ t. Some t) count; free = (declared_none scope it w declared).1; word = word })

      array_there : (v : Name) (id : ℕ) (role : Role) (n : ℕ) → ((w ≡ v) × (number (count_by is_number_thing scope.visible) it ≡ array id role n)) ⊎ (thing_of scope v ≡ Some (array id role n)) → ArrayOf known.arrays id role n
      array_there v id role n (inl p) = absurd (apart _ it id role n p.1)
        where
          apart : (a : ℕ) (s : Bool) (b : ℕ) (r : Role) (m : ℕ) → number a s ≡ array b r m → ⊥
          apart a s b r m e = cc
      array_there v id role n (inr e) = k.array_of v id role n e

  pub knows_array : (d : Decl) → is_refused_word scope false w ≡ false → more.numbers ≡ known.numbers → more.arrays ≡ known.arrays ++ d ∷ [] → Knows more (with_array scope w d.role (length d.extents)) (and_array_name names w)
  knows_array d free count arrays =
      let long = length-append names.arrays (w ∷ []) in
      let longer = length-append known.arrays (d ∷ []) in
      let before = k.arrays in
      let all = ap length arrays in
      record {
        sees = sees_array scope names w d.role (length d.extents) k.sees;
        taken = taken_more _;
        numbers = count ∙ k.numbers;
        arrays = omega (arith, long, longer, before, all);
        number_at = λ id lt. number_kept scope it w (number_name names (record { 0 = id })) _ id declared (k.number_at id lt);
        array_at = λ id x e. array_there id x (front_or_end known.arrays d x id (ap (λ l. slice_get l id) (sym arrays) ∙ e));
        array_of = λ v id role n e. subst (λ l. ArrayOf l id role n) (sym arrays) (decl_there v id role n (new_or_old scope w v _ (array id role n) e));
      }
    where
      array_there : (id : ℕ) (x : Decl) → ((id ≡ length known.arrays) × (d ≡ x)) ⊎ (slice_get known.arrays id ≡ Some x) → ArrayAt (with_array scope w d.role (length d.extents)) (array_name (and_array_name names w) (record { 0 = id })) id x.role (length x.extents)
      array_there id x (inl p) =
          let at : id ≡ length names.arrays = p.0 ∙ k.arrays in
          let count : ◌≡◌ {A = Thing} (array (count_by is_array_thing scope.visible) d.role (length d.extents)) (array id d.role (length d.extents)) = ap (λ n. array n d.role (length d.extents)) (k.sees.array_count ∙ sym at) in
          let its_name : w ≡ array_name (and_array_name names w) (record { 0 = id }) = ap (λ o. unwrap_or o []) (sym (get_end names.arrays w)) ∙ ap (λ n. unwrap_or (slice_get (names.arrays ++ w ∷ []) n) []) (sym at) in
          subst (λ y. ArrayAt (with_array scope w d.role (length d.extents)) (array_name (and_array_name names w) (record { 0 = id })) id y.role (length y.extents)) p.1
          (subst (λ v. ArrayAt (with_array scope w d.role (length d.extents)) v id d.role (length d.extents)) its_name (record { found = new_is_seen scope w _ ∙ ap (λ t. Some t) count; free = free; word = word }))
      array_there id x (inr e) =
          let a = k.array_at id x e in
          let lt : id < length names.arrays = get_within known.arrays id x e k.arrays in
          let g = get_some names.arrays id lt in
          let same_name : array_name (and_array_name names w) (record { 0 = id }) ≡ array_name names (record { 0 = id }) = ap (λ o. unwrap_or o []) (get_front names.arrays (w ∷ []) id g.0 g.1) ∙ ap (λ o. unwrap_or o []) (sym g.1) in
          subst (λ v. ArrayAt (with_array scope w d.role (length d.extents)) v id x.role (length x.extents)) (sym same_name) (array_kept scope it w (array_name names (record { 0 = id })) _ id x.role (length x.extents) declared a)
        where
          get_within : (xs : List Decl) (i : ℕ) (y : Decl) → slice_get xs i ≡ Some y → {n : ℕ} → length xs ≡ n → i < n
          get_within [] i y e q = absurd (cc)
          get_within (z ∷ xs) zero y e q = omega (arith, q)
          get_within (z ∷ xs) (suc i) y e {n} q = let h = get_within xs i y e refl in omega (arith, h, q)

      decl_there : (v : Name) (id : ℕ) (role : Role) (n : ℕ) → ((w ≡ v) × (array (count_by is_array_thing scope.visible) d.role (length d.extents) ≡ array id role n)) ⊎ (thing_of scope v ≡ Some (array id role n)) → ArrayOf (known.arrays ++ d ∷ []) id role n
      decl_there v id role n (inl p) =
          let s = parts _ d.role (length d.extents) id role n p.1 in
          record {
            decl = d;
            is_there = ap (slice_get (known.arrays ++ d ∷ [])) (sym s.0 ∙ k.sees.array_count ∙ sym k.arrays) ∙ get_end known.arrays d;
            its_role = s.1;
            dimensions = s.2;
          }
        where
          parts : (a : ℕ) (s : Role) (m : ℕ) (b : ℕ) (r : Role) (n : ℕ) → array a s m ≡ array b r n → (a ≡ b) × (s ≡ r) × (m ≡ n)
          parts a s m b r n e = (cc, cc, cc)
      decl_there v id role n (inr e) =
          let o = k.array_of v id role n e in
          record { decl = o.decl; is_there = get_front known.arrays (d ∷ []) id o.decl o.is_there; its_role = o.its_role; dimensions = o.dimensions }
