-- What stands in a line before a place stands there before other bytes too.
use Rattle.std.proofs.Common.{◌≡◌, ℕ, Bool, true, false, cond, eqb, ◌&&◌, List, [], ◌∷◌, ◌++◌, length, drop, Option, Some, None, refl, ap, sym, ◌∙◌, subst, append_assoc, ⊎_elim}
use Rattle.std.specs.List.{starts_with}
use Rattle.std.proofs.lemmas.Bool.{and_parts, or_cases, or_parts, not-true, eqb-true}
use Rattle.std.specs.Prelude.{codes, nat_eq}
use Rattle.text_forms.specs.declared.scripts.Lines.TheVariants as kinds
use Rattle.text_forms.specs.declared.scripts.marks.Sought.TheVariants as sought
use Rattle.text_forms.specs.Scripts.{after_word, after_call, opens_data, data_part, then_from, from_first, is_text_word, hash, quote, is_mark, no_marks, begins_with, without, uncommented}

-- a place, with what stands before it, and how it is found there before other bytes
pub record Cut (f : List ℕ → Option (List ℕ)) (line rest : List ℕ) : Type 0 where
  pub front : List ℕ
  pub is : line ≡ front ++ rest
  pub again : (other : List ℕ) → f (front ++ other) ≡ Some other

word_on : (c : ℕ) (cs rest : List ℕ) (b : Bool) → eqb c 32 ≡ b → cond b (Some cs) (after_word cs) ≡ Some rest
    → (after_word cs ≡ Some rest → Cut after_word cs rest) → Cut after_word (c ∷ cs) rest
word_on c cs rest true e h others =
    let same : cs ≡ rest = cc in
    record { front = c ∷ []; is = ap (λ (xs : List ℕ). c ∷ xs) same; again = λ other. rw e refl }
word_on c cs rest false e h others =
    let k = others h in
    record { front = c ∷ k.front; is = ap (λ (xs : List ℕ). c ∷ xs) k.is; again = λ other. rw e (k.again other) }

word_cut : (line rest : List ℕ) → after_word line ≡ Some rest → Cut after_word line rest
word_cut [] rest h = absurd cc
word_cut (c ∷ cs) rest h = word_on c cs rest (eqb c 32) refl h (word_cut cs rest)

begins : (word left : List ℕ) → starts_with nat_eq left word ≡ true → left ≡ word ++ drop (length word) left
begins [] left h = refl
begins (w ∷ ws) [] h = absurd cc
begins (w ∷ ws) (c ∷ cs) h =
    let parts = and_parts (eqb w c) (starts_with nat_eq cs ws) h in
    rw (← eqb-true w c parts.0) (ap (λ (xs : List ℕ). w ∷ xs) (begins ws cs parts.1))

call_as : (word left rest : List ℕ) → ((other : List ℕ) → after_call (word ++ other) ≡ Some other) → after_call left ≡ Some rest
    → starts_with nat_eq left word ≡ true → Cut after_call left rest
call_as word left rest again h s =
    let is = begins word left s in
    let end : Some (drop (length word) left) ≡ Some rest = sym (again (drop (length word) left)) ∙ ap after_call (sym is) ∙ h in
    let same : drop (length word) left ≡ rest = cc in
    record { front = word; is = is ∙ ap (λ (xs : List ℕ). word ++ xs) same; again = again }

call_on : (left rest : List ℕ) → after_call left ≡ Some rest → opens_data left ≡ true → Cut after_call left rest
call_on left rest h o =
    ⊎_elim
    (λ o4. ⊎_elim
    (λ o3. ⊎_elim
    (λ o2. ⊎_elim
    (call_as (codes "write ") left rest (λ other. refl) h)
    (call_as (codes "pwrite ") left rest (λ other. refl) h) (or_cases _ _ o2))
    (call_as (codes "read ") left rest (λ other. refl) h) (or_cases _ _ o3))
    (call_as (codes "pread ") left rest (λ other. refl) h) (or_cases _ _ o4))
    (call_as (codes "resume ") left rest (λ other. refl) h) (or_cases _ _ o)

call_cut : (left rest : List ℕ) (b : Bool) → opens_data left ≡ b → after_call left ≡ Some rest → cond b (after_word left) None ≡ Some rest
    → Cut after_call left rest
call_cut left rest true o h k = call_on left rest h o
call_cut left rest false o h k = absurd cc

data_on : (line rest : List ℕ) (second : Option (List ℕ)) → after_word line ≡ second → then_from second after_call ≡ Some rest
    → Cut (data_part kinds.Acts) line rest
data_on line rest None e h = absurd cc
data_on line rest (Some second) e h =
    let w = word_cut line second e in
    let k = call_cut second rest (opens_data second) refl h h in
    record {
      front = w.front ++ k.front;
      is = w.is ∙ ap (λ (xs : List ℕ). w.front ++ xs) k.is ∙ sym (append_assoc w.front k.front rest);
      again = λ other. ap (λ (xs : List ℕ). data_part kinds.Acts xs) (append_assoc w.front k.front other)
          ∙ ap (λ (o : Option (List ℕ)). then_from o after_call) (w.again (k.front ++ other)) ∙ k.again other;
    }

-- the data of a line of acts
pub data_cut : (line rest : List ℕ) → data_part kinds.Acts line ≡ Some rest → Cut (data_part kinds.Acts) line rest
data_cut line rest h = data_on line rest (after_word line) refl h

-- ---- lines without marks

pub unmarked : (c : ℕ) (cs : List ℕ) → no_marks (c ∷ cs) ≡ true → (is_mark c ≡ false) × (no_marks cs ≡ true)
unmarked c cs h = let p = and_parts _ (no_marks cs) h in (not-true (is_mark c) p.0, p.1)

pub end_unmarked : (front end : List ℕ) → no_marks (front ++ end) ≡ true → no_marks end ≡ true
end_unmarked [] end h = h
end_unmarked (c ∷ cs) end h = end_unmarked cs end (unmarked c (cs ++ end) h).1

skip_mark : (b : Bool) (c : ℕ) (cs : List ℕ) → is_mark c ≡ false → from_first sought.AnyMark b (c ∷ cs) ≡ from_first sought.AnyMark (eqb c 32) cs
skip_mark true c cs h = rw h refl
skip_mark false c cs h = refl

pub no_mark_found : (b : Bool) (line : List ℕ) → no_marks line ≡ true → from_first sought.AnyMark b line ≡ None
no_mark_found b [] h = refl
no_mark_found b (c ∷ cs) h = let p = unmarked c cs h in skip_mark b c cs p.0 ∙ no_mark_found (eqb c 32) cs p.1

skip_comment : (b : Bool) (c : ℕ) (cs : List ℕ) → is_mark c ≡ false → from_first sought.Comment b (c ∷ cs) ≡ from_first sought.Comment (eqb c 32) cs
skip_comment true c cs h = rw (or_parts (eqb c 35) (eqb c 34) h).0 refl
skip_comment false c cs h = refl

no_comment_found : (b : Bool) (line : List ℕ) → no_marks line ≡ true → from_first sought.Comment b line ≡ None
no_comment_found b [] h = refl
no_comment_found b (c ∷ cs) h = let p = unmarked c cs h in skip_comment b c cs p.0 ∙ no_comment_found (eqb c 32) cs p.1

-- such a line has no comment
pub no_comment : (line : List ℕ) → no_marks line ≡ true → uncommented line ≡ line
no_comment line h = ap (λ (o : Option (List ℕ)). without o line) (no_comment_found true line h)

-- nor does one begin it before a quote
pub no_hash : (front other : List ℕ) → no_marks front ≡ true → begins_with hash (front ++ quote ∷ other) ≡ false
no_hash [] other h = refl
no_hash (c ∷ cs) other h = (or_parts (eqb c 35) (eqb c 34) (unmarked c cs h).0).0

pub front_unmarked : (front end : List ℕ) → no_marks (front ++ end) ≡ true → no_marks front ≡ true
front_unmarked [] end h = refl
front_unmarked (c ∷ cs) end h = let p = unmarked c (cs ++ end) h in rw (p.0, front_unmarked cs end p.1) refl

-- a word of text, with what stands before it; there the first quote is found
pub record TextCut (b : Bool) (part word : List ℕ) : Type 0 where
  pub front : List ℕ
  pub is : part ≡ front ++ word
  pub text : is_text_word word ≡ true
  pub again : (other : List ℕ) → from_first sought.AnyMark b (front ++ quote ∷ other) ≡ Some (quote ∷ other)

text_on : (b : Bool) (c : ℕ) (cs word : List ℕ) (t : Bool) → (b && is_text_word (c ∷ cs)) ≡ t
    → cond t (Some (c ∷ cs)) (from_first sought.TextWord (eqb c 32) cs) ≡ Some word
    → is_mark c ≡ false → (from_first sought.TextWord (eqb c 32) cs ≡ Some word → TextCut (eqb c 32) cs word) → TextCut b (c ∷ cs) word
text_on b c cs word true e h plain others =
    let parts = and_parts b (is_text_word (c ∷ cs)) e in
    let same : c ∷ cs ≡ word = cc in
    record {
      front = [];
      is = same;
      text = subst (λ (w : List ℕ). is_text_word w ≡ true) same parts.1;
      again = λ other. ap (λ (begun : Bool). from_first sought.AnyMark begun (quote ∷ other)) parts.0;
    }
text_on b c cs word false e h plain others =
    let k = others h in
    record {
      front = c ∷ k.front;
      is = ap (λ (xs : List ℕ). c ∷ xs) k.is;
      text = k.text;
      again = λ other. skip_mark b c (k.front ++ quote ∷ other) plain ∙ k.again other;
    }

pub text_cut : (b : Bool) (part word : List ℕ) → no_marks part ≡ true → from_first sought.TextWord b part ≡ Some word → TextCut b part word
text_cut b [] word free h = absurd cc
text_cut b (c ∷ cs) word free h =
    let p = unmarked c cs free in
    text_on b c cs word (b && is_text_word (c ∷ cs)) refl h p.0 (text_cut (eqb c 32) cs word p.1)
