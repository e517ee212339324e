-- Lines before the function, one after another.
use Rattle.std.proofs.Common.{◌≡◌, ℕ, suc, ◌+◌, ◌<◌, Bool, true, false, cond, ◌||◌, List, [], ◌∷◌, ◌++◌, length, get_or, take, drop, map, Option, Some, None, is_some, Ok, Err, refl, sym, ap, ◌∙◌, subst, append_assoc, append-nil, drop-cons, add-one}
use Rattle.std.proofs.lemmas.List.{map-append}
use Rattle.std.specs.Option.{option_or}
use Rattle.std.specs.List.{list_any}
use Rattle.std.specs.Map.{lookup}
use Rattle.std.specs.Str.{bytes_eq}
use Rattle.std.specs.String.{string_bytes, string_eq}
use Rattle.std.specs.declared.string.String.{String}
use Rattle.std.specs.Prelude.{ℤ}
use Rattle.indexmap.specs.IndexMap.{insert_entry}
use Rattle.indexmap.specs.IndexSet.{insert_key}
use Rattle.indexmap.proofs.MapLemmas.{absent_from_lookup, insert_entry-absent}
use Rattle.affc_lex.specs.Bytes.{same}
use Rattle.affc_ast.specs.declared.tree.Compare.{Compare}
use Rattle.affc_grammar.specs.declared.fault.NameWhy.{NameWhy}
use Rattle.affc_grammar.specs.Grammar.{Name}
use Rattle.affc_grammar.specs.Draft as d
use Rattle.affc_grammar.specs.Names.{Thing, function, number, array, Scope, Checked, Refusal, ◌>>=◌, allowed, thing_of, why_ranged, each, compare_tree, pragmas_tree, range_of}
use Rattle.affc_syntax.specs.declared.draft.draft.PragmaDraft as code
use Rattle.affc_syntax.specs.draft.Drafts as seen
use Rattle.affc_names.specs.declared.fault.NameFault.{NameFault}
use Rattle.affc_names.specs.declared.fault.NameFault.TheVariants.{Memory, Refused}
use Rattle.affc_names.specs.Gives.{Fails}
use Rattle.affc_names.specs.Stored as stored
use Rattle.affc_names.specs.Ranged as by_test
use Rattle.affc_names.specs.Ranges.{lines_of, texts, line_tree, ranged_by}
use Rattle.affc_names.proofs.Tables.{same_is, same_turned}
use Rattle.affc_names.proofs.Each.{taken}

-- ---- A list from one of its items on

pub first_from : {C D E : Type 0} (g : D → E) (h : C → D) (cs : List C) (i : ℕ) (c : C) → i < length cs → c ≡ get_or cs i c → map g (map h (drop i cs)) ≡ g (h c) ∷ map g (map h (drop (i + 1) cs))
first_from g h cs i c lt is =
    ap (λ l. map g (map h l)) (drop-cons cs i c lt)
    ∙ ap (λ x. g (h x) ∷ map g (map h (drop (suc i) cs))) (sym is)
    ∙ ap (λ n. g (h c) ∷ map g (map h (drop n cs))) (sym (add-one i))

pub up_to : {C D E : Type 0} (g : D → E) (h : C → D) (cs : List C) (i : ℕ) (c : C) → i < length cs → c ≡ get_or cs i c → map g (map h (take (i + 1) cs)) ≡ map g (map h (take i cs)) ++ g (h c) ∷ []
up_to g h cs i c lt is =
    ap (λ l. map g (map h l)) (taken cs i c lt is)
    ∙ ap (map g) (map-append h (take i cs) (c ∷ []))
    ∙ map-append g (map h (take i cs)) (h c ∷ [])

-- ---- Ranges

or_assoc : {A : Type 0} (a b c : Option A) → option_or a (option_or b c) ≡ option_or (option_or a b) c
or_assoc None b c = refl
or_assoc (Some a) b c = refl

pub or_nothing : {A : Type 0} (a : Option A) → option_or a None ≡ a
or_nothing None = refl
or_nothing (Some a) = refl

pub range-append : (w : Name) (ps qs : List d.PragmaDraft) → range_of w (ps ++ qs) ≡ option_or (range_of w ps) (range_of w qs)
range-append w [] qs = refl
range-append w (d.range v low_at low high ∷ ps) qs = by (same v.name w) (range-append w ps qs)
  where
    by : (b : Bool) → range_of w (ps ++ qs) ≡ option_or (range_of w ps) (range_of w qs)
        → cond b (Some (low, high)) (range_of w (ps ++ qs)) ≡ option_or (cond b (Some (low, high)) (range_of w ps)) (range_of w qs)
    by true e = refl
    by false e = e
range-append w (d.context at cs ∷ ps) qs = range-append w ps qs

pub range_at : {A : Type 0} (es : List (String A × (ℤ × ℤ))) (w : Name) → lookup (λ k. bytes_eq w (string_bytes k)) es ≡ range_of w (lines_of es)
range_at [] w = refl
range_at (e ∷ es) w =
    ap (λ o. cond (bytes_eq w (string_bytes e.0)) (Some e.1) o) (range_at es w)
    ∙ ap (λ b. cond b (Some e.1) (range_of w (lines_of es))) (same_turned w (string_bytes e.0))

pub range_there : {A : Type 0} (es : List (String A × (ℤ × ℤ))) (name : Name) (r : ℤ × ℤ) → is_some (lookup (λ k. bytes_eq name (string_bytes k)) es) ≡ true
    → (w : Name) → range_of w (lines_of es) ≡ option_or (range_of w (lines_of es)) (cond (same name w) (Some r) None)
range_there es name r there w = by (same name w) refl
  where
    some_first : (o : Option (ℤ × ℤ)) (p : Option (ℤ × ℤ)) → is_some o ≡ true → o ≡ option_or o p
    some_first None p e = absurd (cc)
    some_first (Some x) p e = refl

    by : (b : Bool) → same name w ≡ b → range_of w (lines_of es) ≡ option_or (range_of w (lines_of es)) (cond b (Some r) None)
    by true e = some_first (range_of w (lines_of es)) (Some r) (ap is_some (sym (range_at es w) ∙ ap (λ x. lookup (λ k. bytes_eq x (string_bytes k)) es) (sym (same_is name w e))) ∙ there)
    by false e = sym (or_nothing (range_of w (lines_of es)))

lines-append : {A : Type 0} (es fs : List (String A × (ℤ × ℤ))) → lines_of (es ++ fs) ≡ lines_of es ++ lines_of fs
lines-append es fs = map-append _ es fs

none_there : {A : Type 0} (o : Option A) → is_some o ≡ false → o ≡ None
none_there None e = refl
none_there (Some a) e = absurd (cc)

pub range_added : {A : Type 0} (es new : List (String A × (ℤ × ℤ))) (k : String A) (name : Name) (r : ℤ × ℤ) → string_bytes k ≡ name → is_some (lookup (λ j. bytes_eq name (string_bytes j)) es) ≡ false
    → new ≡ insert_entry string_eq es k r → (w : Name) → range_of w (lines_of new) ≡ option_or (range_of w (lines_of es)) (cond (same name w) (Some r) None)
range_added es new k name r is absent made w =
    let free : lookup (string_eq k) es ≡ None = subst (λ x. lookup (λ j. bytes_eq x (string_bytes j)) es ≡ None) (sym is) (none_there _ absent) in
    ap (λ l. range_of w (lines_of l)) (made ∙ insert_entry-absent string_eq k r es (absent_from_lookup (string_eq k) es free))
    ∙ ap (range_of w) (lines-append es ((k, r) ∷ []))
    ∙ range-append w (lines_of es) (lines_of ((k, r) ∷ []))
    ∙ ap (λ x. option_or (range_of w (lines_of es)) (cond (same x w) (Some r) None)) is

abbrev pub seen_lines : List code.PragmaDraft → List d.PragmaDraft
seen_lines ps = map stored.pragma (map seen.pragma ps)

pub ranges_turn : (cs : List code.PragmaDraft) (i : ℕ) (c : code.PragmaDraft) (before after : Option (ℤ × ℤ)) (w : Name) → i < length cs → c ≡ get_or cs i c
    → before ≡ range_of w (seen_lines (take i cs)) → after ≡ option_or before (range_of w (stored.pragma (seen.pragma c) ∷ [])) → after ≡ range_of w (seen_lines (take (i + 1) cs))
ranges_turn cs i c before after w lt is e f =
    f ∙ ap (λ o. option_or o (range_of w (stored.pragma (seen.pragma c) ∷ []))) e
    ∙ sym (range-append w (seen_lines (take i cs)) (stored.pragma (seen.pragma c) ∷ []))
    ∙ ap (range_of w) (sym (up_to stored.pragma seen.pragma cs i c lt is))

-- ---- Conditions

any-snoc : (w v : Name) (ws : List Name) → list_any (same w) (v ∷ ws) ≡ list_any (same w) (ws ++ v ∷ [])
any-snoc w v [] = refl
any-snoc w v (x ∷ ws) = swapped (same w v) (same w x) (list_any (same w) ws) ∙ ap (λ b. same w x || b) (any-snoc w v ws)
  where
    swapped : (a b c : Bool) → (a || (b || c)) ≡ (b || (a || c))
    swapped true true c = refl
    swapped true false c = refl
    swapped false b c = refl

pub ranged_is : (s : Scope) (e : List Name) (w : Name) (t : Option Thing) → why_ranged s e w t ≡ by_test.why_ranged s (list_any (same w) e) w t
ranged_is s e w None = refl
ranged_is s e w (Some function) = refl
ranged_is s e w (Some (number id it)) = refl
ranged_is s e w (Some (array id role n)) = refl

-- of the names that were given a range before, the order doesn't matter
pragmas_earlier : (s : Scope) (ps : List d.PragmaDraft) (e f : List Name) → ((w : Name) → list_any (same w) e ≡ list_any (same w) f) → pragmas_tree s e ps ≡ pragmas_tree s f ps
pragmas_earlier s [] e f h = refl
pragmas_earlier s (d.range w low_at low high ∷ ps) e f h =
    ap (λ why. allowed why w.at (pragmas_tree s (w.name ∷ e) ps)) (ranged_is s e w.name (thing_of s w.name) ∙ ap (λ b. by_test.why_ranged s b w.name (thing_of s w.name)) (h w.name) ∙ sym (ranged_is s f w.name (thing_of s w.name)))
    ∙ ap (allowed (why_ranged s f w.name (thing_of s w.name)) w.at) (pragmas_earlier s ps (w.name ∷ e) (w.name ∷ f) (λ x. ap (λ b. same x w.name || b) (h x)))
pragmas_earlier s (d.context at cs ∷ ps) e f h = ap (λ m. each (compare_tree s) cs >>= (λ xs. m >>= (λ others. Ok (xs ++ others)))) (pragmas_earlier s ps e f h)

abbrev pub behind : List Compare → Checked (List Compare) → Checked (List Compare)
behind done m = m >>= (λ xs. Ok (done ++ xs))

pub behind_none : (m : Checked (List Compare)) → m ≡ behind [] m
behind_none (Ok xs) = refl
behind_none (Err r) = refl

-- a line and those behind it
line_on : (s : Scope) (e : List Name) (p : d.PragmaDraft) (ps : List d.PragmaDraft) → pragmas_tree s e (p ∷ ps) ≡ line_tree s e p >>= (λ xs. behind xs (pragmas_tree s (e ++ ranged_by p) ps))
line_on s e (d.range w low_at low high) ps = by (why_ranged s e w.name (thing_of s w.name)) (pragmas_earlier s ps (w.name ∷ e) (e ++ w.name ∷ []) (λ x. any-snoc x w.name e))
  where
    by : (why : Option NameWhy) → pragmas_tree s (w.name ∷ e) ps ≡ pragmas_tree s (e ++ w.name ∷ []) ps
        → allowed why w.at (pragmas_tree s (w.name ∷ e) ps) ≡ allowed why w.at (Ok []) >>= (λ xs. behind xs (pragmas_tree s (e ++ w.name ∷ []) ps))
    by None h = h ∙ behind_none _
    by (Some why) h = refl
line_on s e (d.context at cs) ps = ap (λ f. each (compare_tree s) cs >>= (λ xs. behind xs (pragmas_tree s f ps))) (sym (append-nil e))

regrouped : (done xs : List Compare) (m : Checked (List Compare)) → behind done (behind xs m) ≡ behind (done ++ xs) m
regrouped done xs (Err r) = refl
regrouped done xs (Ok ys) = ap (λ (l : List Compare). answered l) (sym (append_assoc done xs ys))
  where
    answered : List Compare → Checked (List Compare)
    answered l = Ok l

pub conditions_turn : (s : Scope) (e f : List Name) (cs : List code.PragmaDraft) (i : ℕ) (c : code.PragmaDraft) (done xs : List Compare) → i < length cs → c ≡ get_or cs i c
    → line_tree s e (stored.pragma (seen.pragma c)) ≡ Ok xs → f ≡ e ++ ranged_by (seen.pragma c)
    → behind done (pragmas_tree s e (seen_lines (drop i cs))) ≡ behind (done ++ xs) (pragmas_tree s f (seen_lines (drop (i + 1) cs)))
conditions_turn s e f cs i c done xs lt is here noted =
    let rest = seen_lines (drop (i + 1) cs) in
    ap (λ l. behind done (pragmas_tree s e l)) (first_from stored.pragma seen.pragma cs i c lt is)
    ∙ ap (behind done) (line_on s e (stored.pragma (seen.pragma c)) rest)
    ∙ ap (λ m. behind done (m >>= (λ ys. behind ys (pragmas_tree s (e ++ ranged_by (stored.pragma (seen.pragma c))) rest)))) here
    ∙ regrouped done xs (pragmas_tree s (e ++ ranged_by (stored.pragma (seen.pragma c))) rest)
    ∙ ap (λ g. behind (done ++ xs) (pragmas_tree s g rest)) (ap (λ l. e ++ l) (same_ranged (seen.pragma c)) ∙ sym noted)
  where
    same_ranged : (p : d.PragmaDraft) → ranged_by (stored.pragma p) ≡ ranged_by p
    same_ranged (d.range w low_at low high) = refl
    same_ranged (d.context at ks) = refl

pub conditions_stop : (s : Scope) (e : List Name) (cs : List code.PragmaDraft) (i : ℕ) (c : code.PragmaDraft) (done : List Compare) (fault : NameFault) → i < length cs → c ≡ get_or cs i c
    → Fails fault (line_tree s e (stored.pragma (seen.pragma c))) → Fails fault (behind done (pragmas_tree s e (seen_lines (drop i cs))))
conditions_stop s e cs i c done Memory lt is here = tt
conditions_stop s e cs i c done (Refused at why) lt is here =
    let rest = seen_lines (drop (i + 1) cs) in
    ap (λ l. behind done (pragmas_tree s e l)) (first_from stored.pragma seen.pragma cs i c lt is)
    ∙ ap (behind done) (line_on s e (stored.pragma (seen.pragma c)) rest)
    ∙ ap (λ m. behind done (m >>= (λ ys. behind ys (pragmas_tree s (e ++ ranged_by (stored.pragma (seen.pragma c))) rest)))) here

-- ---- Names that were given a range

pub among : {A : Type 0} (w : Name) (ks : List (String A)) → list_any (λ k. bytes_eq w (string_bytes k)) ks ≡ list_any (same w) (texts ks)
among w [] = refl
among w (k ∷ ks) = ap (λ b. same w (string_bytes k) || b) (among w ks)

not_earlier : (s : Scope) (b : Bool) (w : Name) (t : Option Thing) → by_test.why_ranged s b w t ≡ None → b ≡ false
not_earlier s false w t e = refl
not_earlier s true w None e = absurd (cc)
not_earlier s true w (Some function) e = absurd (cc)
not_earlier s true w (Some (number id it)) e = absurd (cc)
not_earlier s true w (Some (array id role n)) e = absurd (cc)

pub added_name : {A : Type 0} (s : Scope) (t : Option Thing) (ks new : List (String A)) (k : String A) (w : Name) (b : Bool) → string_bytes k ≡ w → b ≡ list_any (same w) (texts ks) → by_test.why_ranged s b w t ≡ None
    → new ≡ insert_key string_eq ks k → texts new ≡ texts ks ++ w ∷ []
added_name s t ks new k w b is earlier why made =
    let free : list_any (string_eq k) ks ≡ false = ap (λ x. list_any (λ j. bytes_eq x (string_bytes j)) ks) is ∙ among w ks ∙ sym earlier ∙ not_earlier s b w t why in
    ap texts (made ∙ ap (λ c. cond c ks (ks ++ k ∷ [])) free) ∙ map-append string_bytes ks (k ∷ []) ∙ ap (λ x. texts ks ++ x ∷ []) is

pub ranged_why_is : (s : Scope) (earlier : List Name) (w name : Name) (b : Bool) (t : Option Thing) (r : Option NameWhy) → name ≡ w → b ≡ list_any (same name) earlier → t ≡ thing_of s name → r ≡ by_test.why_ranged s b name t
    → why_ranged s earlier w (thing_of s w) ≡ r
ranged_why_is s earlier w name b t r named is found made =
    sym (made ∙ ap (λ x. by_test.why_ranged s x name t) is ∙ ap (by_test.why_ranged s (list_any (same name) earlier) name) found
    ∙ sym (ranged_is s earlier name (thing_of s name)) ∙ ap (λ x. why_ranged s earlier x (thing_of s x)) named)

abbrev word_allowed : ℕ → Option NameWhy → Checked (Unit {0})
word_allowed at why = allowed why at (Ok tt)

pub word_refused : (why : Option NameWhy) (w : NameWhy) (at : ℕ) → why ≡ Some w → allowed {A = Unit {0}} why at (Ok tt) ≡ Err (record { at = at; why = w })
word_refused why w at e = ap (word_allowed at) e

-- a line that gives a range, by what its word is
pub range_fails : (f : NameFault) (why : Option NameWhy) (at : ℕ) → Fails f (allowed {A = Unit {0}} why at (Ok tt)) → Fails f (allowed {A = List Compare} why at (Ok []))
range_fails Memory why at h = tt
range_fails (Refused n w) None at h = absurd (cc)
range_fails (Refused n w) (Some v) at h = ap again (refused _ _ h)
  where
    again : Refusal → Checked (List Compare)
    again r = Err r

    refused : (x y : Refusal) → ◌≡◌ {A = Checked (Unit {0})} (Err x) (Err y) → x ≡ y
    refused x y e = cc

pub range_allowed : (why : Option NameWhy) (at : ℕ) → allowed {A = Unit {0}} why at (Ok tt) ≡ Ok tt → allowed {A = List Compare} why at (Ok []) ≡ Ok []
range_allowed None at h = refl
range_allowed (Some w) at h = absurd (cc)

abbrev pub all_conditions : List Compare → Checked (List Compare)
all_conditions l = Ok l
