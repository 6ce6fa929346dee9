-- The tokens of the text of an expression, and the derivation that has them and means the expression again.
use Rattle.std.proofs.{Common.{ap, append-nil, inl, inr, refl, sym, true≢false, ℕ, ◌∙◌, ◌≡◌, ◌≢◌}, lemmas.{Bool.{cases_Bool, eqb-false, ne_eqb, or_parts}, List.map-append}}
use Rattle.std.specs.Prelude.{Bool, IsTrue, List, None, Option, Some, [], false, if◌then◌else◌, is_some, map, true, unwrap_or, ◌&&◌, ◌++◌, ◌==◌, ◌||◌, ◌∷◌}
use Rattle.kc_language.specs.{ExpressionTexts.{AreReadable, IsOperand, IsReadable, is_and, is_relation}, Expressions.{Atom, Bang, Chain, Close, Compares, Disjunction, Every, Form, Forms, Joins, Leaf, LoneM, MoreForms, Negated, Negation, NoForms, Open, OperandToken, Part, QuotedAtom, Related, Single, Some_of, Symbol, Terminal, Text, WordAtom, bang, compare, conjunction, forms, group, if_word, joined, leaf, lone, meaning, meaning_not, meaning_part, negation, number_of, only, parts, same_name, spell, spell_not, spell_part, symbol, terminal_of, tri_text, tristate_constant}, Symbols.name_by, Text.{escape, unescape}, Tokens.{AQuoted, AWord, AnOp, Lexeme}, declared.{expressions.{Connective.{Connective, TheVariants.{And, Or}}, Tri.TheVariants.M}, tokens.Op.Op}}
use Rattle.kc_language.specs.declared.tokens.Op.TheVariants as op

-- ---- The tokens of the text
abbrev pub op_of : Connective → Op
op_of c = elim c [ And ↦ op.And | Or ↦ op.Or ]

abbrev pub between : Bool → List Lexeme → List Lexeme
between needed ts = if needed then (AnOp op.LParen ∷ []) ++ ts ++ (AnOp op.RParen ∷ []) else ts

module _ (names : List (List ℕ)) where
  abbrev pub operand_token : Leaf → Lexeme
  operand_token a = elim a [ Text t ↦ if is_some (tristate_constant t) then AWord t else AQuoted (escape t) | Symbol s ↦ AWord (name_by names s) ]

  abbrev mutual
    pub tokens_at : Option Connective → Form → List Lexeme
    tokens_at place (Single a) = operand_token a ∷ []
    tokens_at place (Related o a b) = operand_token a ∷ AnOp o ∷ operand_token b ∷ []
    tokens_at place (Negated f) = AnOp op.Not ∷ tokens_at (Some And) f
    tokens_at place LoneM = AWord (tri_text M) ∷ []
    tokens_at place (Every fs) = between (is_and place) (chain_tokens And [] fs)
    tokens_at place (Some_of fs) = between (is_some place) (chain_tokens Or [] fs)

    pub chain_tokens : Connective → List Lexeme → Forms → List Lexeme
    chain_tokens c lead NoForms = []
    chain_tokens c lead (MoreForms f fs) = lead ++ tokens_at (Some c) f ++ chain_tokens c (AnOp (op_of c) ∷ []) fs

  -- ---- Its derivation: after `!`, as a part of a `||`, and alone
  abbrev pub atom : Leaf → Atom
  atom a = elim a [ Text t ↦ if is_some (tristate_constant t) then WordAtom t else QuotedAtom (escape t) | Symbol s ↦ WordAtom (name_by names s) ]

pub record Trees : Type 0 where
  pub as_not : Negation
  pub as_part : Part Or
  pub as_whole : Chain Or

abbrev pub one_tree : Negation → Trees
one_tree n = record { as_not = n; as_part = conjunction (only (negation n)); as_whole = only (conjunction (only (negation n))) }

abbrev pub and_tree : Chain And → Trees
and_tree c = record { as_not = group (only (conjunction c)); as_part = conjunction c; as_whole = only (conjunction c) }

abbrev pub or_tree : Chain Or → Trees
or_tree c = record { as_not = group c; as_part = conjunction (only (negation (group c))); as_whole = c }

abbrev pub part_in : (c : Connective) → Trees → Part c
part_in And t = negation t.as_not
part_in Or t = t.as_part

abbrev pub then_more : {c : Connective} → Part c → Option (Chain c) → Chain c
then_more p None = only p
then_more p (Some ps) = joined p ps

module _ (names : List (List ℕ)) where
  abbrev mutual
    pub trees_of : Form → Trees
    trees_of (Single a) = one_tree (lone (atom names a))
    trees_of (Related o a b) = one_tree (compare o (atom names a) (atom names b))
    trees_of (Negated f) = one_tree (bang (trees_of f).as_not)
    trees_of LoneM = one_tree (lone (WordAtom (tri_text M)))
    trees_of (Every fs) = and_tree (unwrap_or (chain_of And fs) (only (negation (lone (WordAtom [])))))
    trees_of (Some_of fs) = or_tree (unwrap_or (chain_of Or fs) (only (conjunction (only (negation (lone (WordAtom [])))))))

    pub chain_of : (c : Connective) → Forms → Option (Chain c)
    chain_of c NoForms = None
    chain_of c (MoreForms f fs) = Some (then_more (part_in c (trees_of f)) (chain_of c fs))

  abbrev pub tree_of : Form → Disjunction
  tree_of f = (trees_of f).as_whole

-- ---- Escaped texts and constants are read back
unescape_plain : (b : ℕ) (bs : List ℕ) → b ≢ 92 → unescape (b ∷ bs) ≡ b ∷ unescape bs
unescape_plain b [] ne = refl
unescape_plain b (c ∷ bs) ne = rw (ne_eqb b 92 ne) refl

pub unescape_escape : (bs : List ℕ) → unescape (escape bs) ≡ bs
unescape_escape [] = refl
unescape_escape (b ∷ bs) = elim (cases_Bool (b == 34 || b == 92)) [
  | inl e ↦ rw e (ap (λ (t : List ℕ). b ∷ t) (unescape_escape bs))
  | inr e ↦ rw e (unescape_plain b (escape bs) (eqb-false b 92 (or_parts _ _ e).1) ∙ ap (λ (t : List ℕ). b ∷ t) (unescape_escape bs))
]

no_if : (t : List ℕ) → is_some (tristate_constant t) ≡ true → same_name t if_word ≡ false
no_if [] e = absurd (true≢false (sym e))
no_if (b ∷ []) e = elim (b == 105) as (λ v. (v && false) ≡ false) [ true ↦ refl | false ↦ refl ]
no_if (b ∷ c ∷ t) e = absurd (true≢false (sym e))

relation_token : (o : Op) → IsTrue (is_relation o) → terminal_of (AnOp o) ≡ Compares o
relation_token op.Eq h = refl
relation_token op.Ne h = refl
relation_token op.Lt h = refl
relation_token op.Gt h = refl
relation_token op.Le h = refl
relation_token op.Ge h = refl
relation_token _ h = absurd (true≢false (sym h))

joint_token : (c : Connective) → Joins c ≡ terminal_of (AnOp (op_of c))
joint_token And = refl
joint_token Or = refl

module _ (names : List (List ℕ)) where
  leaf_is : (a : Leaf) → IsOperand names a → leaf (number_of names) (atom names a) ≡ a
  leaf_is (Text t) h = elim (cases_Bool (is_some (tristate_constant t))) [ inl e ↦ rw (e, e) refl | inr e ↦ rw e (ap Text (unescape_escape t)) ]
  leaf_is (Symbol s) h =
      let e : is_some (tristate_constant (name_by names s)) ≡ false = h.no_constant in
      rw e (ap (λ n. Symbol (symbol n)) h.numbered)

  token_is : (a : Leaf) → IsOperand names a → terminal_of (operand_token names a) ≡ OperandToken (atom names a)
  token_is (Text t) h = elim (cases_Bool (is_some (tristate_constant t))) [ inl e ↦ rw (e, no_if t e) refl | inr e ↦ rw e refl ]
  token_is (Symbol s) h = let e : same_name (name_by names s) if_word ≡ false = h.no_keyword in rw e refl

module _ (condition : Bool) (names : List (List ℕ)) where
  -- The derivations have these tokens and mean the expression.
  record Reads (trees : Trees) (in_not in_part in_whole : List Lexeme) (f : Form) : Type 0 where
    not_spelled : spell_not trees.as_not ≡ map terminal_of in_not
    part_spelled : spell_part trees.as_part ≡ map terminal_of in_part
    whole_spelled : spell trees.as_whole ≡ map terminal_of in_whole
    not_means : meaning_not condition (number_of names) trees.as_not ≡ f
    part_means : meaning_part condition (number_of names) trees.as_part ≡ f
    whole_means : meaning condition (number_of names) trees.as_whole ≡ f

  one_reads : (n : Negation) (ts : List Lexeme) (f : Form) → spell_not n ≡ map terminal_of ts → meaning_not condition (number_of names) n ≡ f →
      Reads (one_tree n) ts ts ts f
  one_reads n ts f e m = record { not_spelled = e; part_spelled = e; whole_spelled = e; not_means = m; part_means = m; whole_means = m }

  between_spelled : (ts : List Lexeme) (x : List Terminal) → x ≡ map terminal_of ts → Open ∷ x ++ Close ∷ [] ≡ map terminal_of (between true ts)
  between_spelled ts x e = ap (λ y. Open ∷ y ++ Close ∷ []) e ∙ ap (λ y. Open ∷ y) (sym (map-append terminal_of ts (AnOp op.RParen ∷ [])))

  and_reads : (c : Chain And) (ts : List Lexeme) (f : Form) → spell c ≡ map terminal_of ts → meaning condition (number_of names) c ≡ f →
      Reads (and_tree c) (between true ts) ts ts f
  and_reads c ts f e m = record { not_spelled = between_spelled ts _ e; part_spelled = e; whole_spelled = e; not_means = m; part_means = m; whole_means = m }

  or_reads : (c : Chain Or) (ts : List Lexeme) (f : Form) → spell c ≡ map terminal_of ts → meaning condition (number_of names) c ≡ f →
      Reads (or_tree c) (between true ts) (between true ts) ts f
  or_reads c ts f e m = record {
    not_spelled = between_spelled ts _ e;
    part_spelled = between_spelled ts _ e;
    whole_spelled = e;
    not_means = m;
    part_means = m;
    whole_means = m;
  }

  abbrev ReadsForm : Form → Type 0
  ReadsForm f = Reads (trees_of names f) (tokens_at names (Some And) f) (tokens_at names (Some Or) f) (tokens_at names None f) f

  in_chain_spelled : (c : Connective) (f : Form) → ReadsForm f → spell_part (part_in c (trees_of names f)) ≡ map terminal_of (tokens_at names (Some c) f)
  in_chain_spelled And f r = r.not_spelled
  in_chain_spelled Or f r = r.part_spelled

  in_chain_means : (c : Connective) (f : Form) → ReadsForm f → meaning_part condition (number_of names) (part_in c (trees_of names f)) ≡ f
  in_chain_means And f r = r.not_means
  in_chain_means Or f r = r.part_means

  lone_means : (a : Leaf) → IsReadable condition names (Single a) → meaning_not condition (number_of names) (lone (atom names a)) ≡ Single a
  lone_means a h =
      ap (λ l. if condition && elim l [ Text t ↦ same_name t (tri_text M) | Symbol s ↦ false ] then LoneM else Single l) (leaf_is names a h.0)
      ∙ ap (λ b. if b then LoneM else Single a) h.1

  abbrev more_tokens : Connective → Forms → List Lexeme
  more_tokens c fs = chain_tokens names c (AnOp (op_of c) ∷ []) fs

  mutual
    reads : (f : Form) → IsReadable condition names f → ReadsForm f
    reads (Single a) h = one_reads _ _ _ (ap (λ t. t ∷ []) (sym (token_is names a h.0))) (lone_means a h)
    reads (Related o a b) h = one_reads _ _ _
        (sym (rw (token_is names a h.1, relation_token o h.0, token_is names b h.2) refl)) (rw (leaf_is names a h.1, leaf_is names b h.2) refl)
    reads (Negated f) h = let r = reads f h in one_reads _ _ _ (ap (λ ts. Bang ∷ ts) r.not_spelled) (ap Negated r.not_means)
    reads LoneM h = one_reads _ _ _ refl (rw h refl)
    reads (Every (MoreForms f (MoreForms g fs))) h = let r = reads f h.1.0 in
        let p = part_in And (trees_of names f) in
        and_reads (then_more p (chain_of names And (MoreForms g fs))) (chain_tokens names And [] (MoreForms f (MoreForms g fs))) _
        (chain_spelled And p (tokens_at names (Some And) f) (MoreForms g fs) r.not_spelled h.1.1) (ap Every (chain_means And p f (MoreForms g fs) r.not_means h.1.1))
    reads (Some_of (MoreForms f (MoreForms g fs))) h = let r = reads f h.1.0 in
        let p = part_in Or (trees_of names f) in
        or_reads (then_more p (chain_of names Or (MoreForms g fs))) (chain_tokens names Or [] (MoreForms f (MoreForms g fs))) _
        (chain_spelled Or p (tokens_at names (Some Or) f) (MoreForms g fs) r.part_spelled h.1.1) (ap Some_of (chain_means Or p f (MoreForms g fs) r.part_means h.1.1))
    reads (Every NoForms) h = absurd (true≢false (sym h.0))
    reads (Every (MoreForms f NoForms)) h = absurd (true≢false (sym h.0))
    reads (Some_of NoForms) h = absurd (true≢false (sym h.0))
    reads (Some_of (MoreForms f NoForms)) h = absurd (true≢false (sym h.0))

    chain_spelled : (c : Connective) (p : Part c) (ts : List Lexeme) (fs : Forms) → spell_part p ≡ map terminal_of ts → AreReadable condition names fs →
        spell (then_more p (chain_of names c fs)) ≡ map terminal_of (ts ++ more_tokens c fs)
    chain_spelled c p ts NoForms e h = e ∙ ap (map terminal_of) (sym (append-nil ts))
    chain_spelled c p ts (MoreForms g gs) e h =
        let next = part_in c (trees_of names g) in
        let more = chain_spelled c next (tokens_at names (Some c) g) gs (in_chain_spelled c g (reads g h.0)) h.1 in
        ap (λ x. x ++ Joins c ∷ spell (then_more next (chain_of names c gs))) e ∙ ap (λ x. map terminal_of ts ++ Joins c ∷ x) more
        ∙ ap (λ x. map terminal_of ts ++ x ∷ map terminal_of (tokens_at names (Some c) g ++ more_tokens c gs)) (joint_token c)
        ∙ sym (map-append terminal_of ts (AnOp (op_of c) ∷ tokens_at names (Some c) g ++ more_tokens c gs))

    chain_means : (c : Connective) (p : Part c) (f : Form) (fs : Forms) → meaning_part condition (number_of names) p ≡ f → AreReadable condition names fs →
        forms (parts condition (number_of names) (then_more p (chain_of names c fs))) ≡ MoreForms f fs
    chain_means c p f NoForms m h = ap (λ x. MoreForms x NoForms) m
    chain_means c p f (MoreForms g gs) m h =
        let next = part_in c (trees_of names g) in
        let more = chain_means c next g gs (in_chain_means c g (reads g h.0)) h.1 in
        ap (λ x. MoreForms x (forms (parts condition (number_of names) (then_more next (chain_of names c gs))))) m ∙ ap (MoreForms f) more

  -- The tokens of the text are derived by an expression that means the same.
  pub derives_the_tokens : (f : Form) → IsReadable condition names f → spell (tree_of names f) ≡ map terminal_of (tokens_at names None f)
  derives_the_tokens f h = (reads f h).whole_spelled

  pub means_the_same : (f : Form) → IsReadable condition names f → meaning condition (number_of names) (tree_of names f) ≡ f
  means_the_same f h = (reads f h).whole_means
