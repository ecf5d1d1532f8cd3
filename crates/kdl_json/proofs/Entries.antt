-- Entries that were taken from the tokens, and those that are left.
use Rattle.std.proofs.Common.{◌≡◌, ◌≢◌, ℕ, ◌+◌, ◌<◌, ◌≤◌, List, [], ◌∷◌, ◌++◌, append_assoc, append-nil, get_or, length, map, take, take_all, refl, ap, ◌∙◌, sym, subst}
use Rattle.std.proofs.lemmas.List.{map-append, take_more}
use Rattle.json.specs.Written.{Written}
use Rattle.kdl_entry.specs.Tree.{entry_data, entry_tree}
use Rattle.kdl_entry.specs.declared.entry.KdlEntry.{KdlEntry}
use Rattle.json.specs.Token as json'
use Rattle.json.specs.Token.{Token}
use Rattle.kdl_entry.specs.Data.{Entry}
use Rattle.kdl_layout.specs.WellFormed.{AreWellFormedEntries, IsWellFormedEntry}
use Rattle.kdl_grammar.specs.Data.{Node, node}
use Rattle.kdl_json.specs.Form.{entries_tokens, entry_tokens}
use Rattle.kdl_json.specs.Heads.{HasTaken, with_more}
use Rattle.kdl_json.proofs.Appending.{Appended, and_part, nothing}

pub with_none : (n : Node) → with_more n [] ≡ n
with_none (node ty name es k) = ap (λ (l : List Entry). node ty name l k) (append-nil es)

pub with_both : (n : Node) (es fs : List Entry) → with_more (with_more n es) fs ≡ with_more n (es ++ fs)
with_both (node ty name gs k) es fs = ap (λ (l : List Entry). node ty name l k) (append_assoc gs es fs)

pub entries_push : (es : List Entry) (e : Entry) (ts : List Token) → entries_tokens (es ++ e ∷ []) ts ≡ entries_tokens es (entry_tokens e ts)
entries_push [] e ts = refl
entries_push (f ∷ es) e ts = ap (entry_tokens f) (entries_push es e ts)

pub taken_none : (n : Node) (ts : List Token) → HasTaken n n ts ts
taken_none n ts = record { entries = []; is = sym (with_none n); tokens = refl }

pub taken_more : (n m m' : Node) (e : Entry) (old now new : List Token) → HasTaken n m old now → m' ≡ with_more m (e ∷ []) → now ≡ entry_tokens e new → HasTaken n m' old new
taken_more n m m' e old now new h is tokens = record {
  entries = h.entries ++ e ∷ [];
  is = is ∙ ap (λ (x : Node). with_more x (e ∷ [])) h.is ∙ with_both n h.entries (e ∷ []);
  tokens = h.tokens ∙ ap (entries_tokens h.entries) tokens ∙ sym (entries_push h.entries e new);
}

-- of the entries es, some were pushed to n, which is m now, and the tokens are of the others
pub record Remain (n m : Node) (es : List Entry) (now rest : List Token) : Type 0 where
  pub taken : List Entry
  pub more : List Entry
  pub all : es ≡ taken ++ more
  pub is : m ≡ with_more n taken
  pub fit : AreWellFormedEntries more
  pub tokens : now ≡ entries_tokens more (json'.end_array ∷ rest)

pub remain_all : (n : Node) (es : List Entry) (now rest : List Token) → AreWellFormedEntries es → now ≡ entries_tokens es (json'.end_array ∷ rest) → Remain n n es now rest
remain_all n es now rest fit e = record { taken = []; more = es; all = refl; is = sym (with_none n); fit = fit; tokens = e }

pub record Ended (n m : Node) (es : List Entry) (new rest : List Token) : Type 0 where
  pub is : m ≡ with_more n es
  pub left : new ≡ rest

pub remain_end : (n m : Node) (es : List Entry) (now new rest : List Token) → Remain n m es now rest → now ≡ json'.end_array ∷ new → Ended n m es new rest
remain_end n m es now new rest h e = go h.more h.all h.tokens
  where
    go : (more : List Entry) → es ≡ h.taken ++ more → now ≡ entries_tokens more (json'.end_array ∷ rest) → Ended n m es new rest
    go [] all t = record { is = h.is ∙ ap (with_more n) (sym (all ∙ append-nil h.taken)); left = cc }
    go (x ∷ more) all t = cc

-- the next of the entries that are left
pub record Next (n m : Node) (es : List Entry) (now rest : List Token) : Type 0 where
  pub entry : Entry
  pub taken : List Entry
  pub more : List Entry
  pub all : es ≡ taken ++ entry ∷ more
  pub is : m ≡ with_more n taken
  pub fit : IsWellFormedEntry entry
  pub later : AreWellFormedEntries more
  pub tokens : now ≡ entry_tokens entry (entries_tokens more (json'.end_array ∷ rest))

pub remain_next : (n m : Node) (es : List Entry) (now rest : List Token) → Remain n m es now rest → ((ts : List Token) → now ≢ json'.end_array ∷ ts) → Next n m es now rest
remain_next n m es now rest h apart = go h.more h.all h.fit h.tokens
  where
    go : (more : List Entry) → es ≡ h.taken ++ more → AreWellFormedEntries more → now ≡ entries_tokens more (json'.end_array ∷ rest) → Next n m es now rest
    go [] all fit t = absurd (apart rest t)
    go (x ∷ more) all fit t = record { entry = x; taken = h.taken; more = more; all = all; is = h.is; fit = fit.0; later = fit.1; tokens = t }

pub remain_on : (n m m' : Node) (e : Entry) (es : List Entry) (now new rest : List Token) (h : Next n m es now rest) → m' ≡ with_more m (e ∷ []) → e ≡ h.entry → new ≡ entries_tokens h.more (json'.end_array ∷ rest) → Remain n m' es new rest
remain_on n m m' e es now new rest h is same tokens = record {
  taken = h.taken ++ h.entry ∷ [];
  more = h.more;
  all = h.all ∙ sym (append_assoc h.taken (h.entry ∷ []) h.more);
  is = is ∙ ap (λ (f : Entry). with_more m (f ∷ [])) same ∙ ap (λ (x : Node). with_more x (h.entry ∷ [])) h.is ∙ with_both n h.taken (h.entry ∷ []);
  fit = h.later;
  tokens = tokens;
}

-- ---- entries that are written one after another

abbrev pub said_in : List KdlEntry → List Entry
said_in es = map (λ e. entry_data (entry_tree e)) es

fit_push : (es : List Entry) (e : Entry) → AreWellFormedEntries es → IsWellFormedEntry e → AreWellFormedEntries (es ++ e ∷ [])
fit_push [] e h f = (f, tt)
fit_push (d ∷ es) e h f = (h.0, fit_push es e h.1 f)

said_more : (es : List KdlEntry) (i : ℕ) (e : KdlEntry) → i < length es → e ≡ get_or es i e → said_in (take (i + 1) es) ≡ said_in (take i es) ++ entry_data (entry_tree e) ∷ []
said_more es i e h is =
    ap said_in (take_more es i e h ∙ ap (λ (x : KdlEntry). take i es ++ x ∷ []) (sym is))
    ∙ map-append (λ x. entry_data (entry_tree x)) (take i es) (e ∷ [])

-- the first i entries are written, and fit
pub record Listed (start out : Written) (es : List KdlEntry) (i : ℕ) : Type 0 where
  pub written : Appended start out (entries_tokens (said_in (take i es)))
  pub fit : AreWellFormedEntries (said_in (take i es))

pub listed_none : (out : Written) (es : List KdlEntry) → Listed out out es 0
listed_none out es = record { written = nothing out; fit = tt }

pub listed_more : (start out new : Written) (es : List KdlEntry) (i : ℕ) (e : KdlEntry) → i < length es → e ≡ get_or es i e → Listed start out es i
    → new.before ≡ out.before → ((ts : List Token) → new.tokens ++ ts ≡ out.tokens ++ entry_tokens (entry_data (entry_tree e)) ts) → IsWellFormedEntry (entry_data (entry_tree e)) → Listed start new es (i + 1)
listed_more start out new es i e h is l b t f =
    let x = entry_data (entry_tree e) in
    let more = said_more es i e h is in
    let a = and_part start out new (entries_tokens (said_in (take i es))) (entry_tokens x) l.written b t in
    record {
      written = record { before = a.before; tokens = λ ts. a.tokens ts ∙ ap (λ (us : List Token). start.tokens ++ us) (sym (entries_push (said_in (take i es)) x ts) ∙ ap (λ (xs : List Entry). entries_tokens xs ts) (sym more)) };
      fit = subst AreWellFormedEntries (sym more) (fit_push (said_in (take i es)) x l.fit f);
    }

pub listed_all : (start out : Written) (es : List KdlEntry) (i : ℕ) → length es ≤ i → Listed start out es i → Appended start out (entries_tokens (said_in es)) × AreWellFormedEntries (said_in es)
listed_all start out es i h l =
    let all : take i es ≡ es = take_all i es h in
    (subst (λ (xs : List KdlEntry). Appended start out (entries_tokens (said_in xs))) all l.written, subst (λ (xs : List KdlEntry). AreWellFormedEntries (said_in xs)) all l.fit)
