-- What `==` of identifiers and entries means, on trees.
use Rattle.std.proofs.Common.{◌≡◌, Bool, Option, Some, None, option_map, ap, sym, ◌∙◌, refl}
use Rattle.std.specs.Bool.{Decides}
use Rattle.std.specs.Option.{option_eq}
use Rattle.std.specs.String.{string_eq}
use Rattle.std.proofs.lemmas.Bool.Decides.{Decides-and, Decides-like}
use Rattle.kdl_value.proofs.Comparing.Equality.{text_decides, truth_decides, value_decides}
use Rattle.kdl_value.specs.Tree.{text_of}
use Rattle.kdl_entry.specs.Tree.{Identifier, identifier_tree, spelling_of, entry_tree, entry_format_tree, without_span, without_spans}
use Rattle.kdl_entry.specs.declared.identifier.KdlIdentifier.{KdlIdentifier}
use Rattle.kdl_entry.specs.declared.entry.KdlEntry.{KdlEntry}
use Rattle.kdl_entry.specs.declared.entry.KdlEntryFormat.{KdlEntryFormat}
use Rattle.kdl_entry.specs.contracts.entry.KdlEntryPartialEq.TheImpl as entry_impl
use Rattle.kdl_entry.specs.contracts.entry.KdlEntryFormatPartialEq.TheImpl as format_impl
use Rattle.kdl_entry.specs.contracts.identifier.KdlIdentifierPartialEq.TheImpl as identifier_impl

-- options are equal exactly where what they hold is
pub option_decides : {A B : Type 0} (eq : A → A → Bool) (f : A → B) → ((x y : A) → Decides (eq x y) (f x ≡ f y))
    → (o p : Option A) → Decides (option_eq eq o p) (option_map f o ≡ option_map f p)
option_decides eq f d None None = (λ e. refl, λ e. refl)
option_decides eq f d None (Some y) = (λ e. cc, λ e. cc)
option_decides eq f d (Some x) None = (λ e. cc, λ e. cc)
option_decides eq f d (Some x) (Some y) = (λ e. ap (λ z. Some z) ((d x y).0 e), λ e. (d x y).1 (cc))

-- identifiers are equal exactly where all but their spans is
pub identifier_decides : (i j : KdlIdentifier) → Decides (identifier_impl.ghosts.eq i j) (without_span (identifier_tree i) ≡ without_span (identifier_tree j))
identifier_decides i j =
    Decides-like _ (λ e. cc) (λ e. (ap (λ x. x.value) e, ap (λ x. x.repr) e))
    (Decides-and _ _ (text_decides i.value j.value) (option_decides string_eq text_of text_decides (spelling_of i) (spelling_of j)))

-- formats are equal exactly where all their texts and flags are
pub format_decides : (f g : KdlEntryFormat) → Decides (format_impl.ghosts.eq f g) (entry_format_tree f ≡ entry_format_tree g)
format_decides f g =
    let last = Decides-and _ _ (text_decides f.after_eq g.after_eq) (truth_decides f.autoformat_keep g.autoformat_keep) in
    let keys = Decides-and _ _ (text_decides f.after_key g.after_key) last in
    let types = Decides-and _ _ (text_decides f.before_ty_name g.before_ty_name) (Decides-and _ _ (text_decides f.after_ty_name g.after_ty_name) keys) in
    let ends = Decides-and _ _ (text_decides f.trailing g.trailing) (Decides-and _ _ (text_decides f.after_ty g.after_ty) types) in
    let all = Decides-and _ _ (text_decides f.value_repr g.value_repr) (Decides-and _ _ (text_decides f.leading g.leading) ends) in
    Decides-like _
    (λ (value, (leading, (trailing, (ty, (before, (following, (key, (eq, keep)))))))). cc)
    (λ e. (
      ap (λ x. x.value_repr) e,
      (
        ap (λ x. x.leading) e,
        (
          ap (λ x. x.trailing) e,
          (
            ap (λ x. x.after_ty) e,
            (
              ap (λ x. x.before_ty_name) e,
              (ap (λ x. x.after_ty_name) e, (ap (λ x. x.after_key) e, (ap (λ x. x.after_eq) e, ap (λ x. x.autoformat_keep) e))),
            ),
          ),
        ),
      ),
    ))
    all

-- an identifier's tree, wherever it was
abbrev spanless : KdlIdentifier → Identifier
spanless i = without_span (identifier_tree i)

mapped : (o : Option KdlIdentifier) → option_map without_span (option_map identifier_tree o) ≡ option_map spanless o
mapped None = refl
mapped (Some i) = refl

name_decides : (o p : Option KdlIdentifier) → Decides (option_eq identifier_impl.ghosts.eq o p)
    (option_map without_span (option_map identifier_tree o) ≡ option_map without_span (option_map identifier_tree p))
name_decides o p =
    Decides-like _ (λ e. mapped o ∙ e ∙ sym (mapped p)) (λ e. sym (mapped o) ∙ e ∙ mapped p)
    (option_decides identifier_impl.ghosts.eq spanless identifier_decides o p)

-- entries are equal exactly where all but their spans is
pub entry_decides : (e d : KdlEntry) → Decides (entry_impl.ghosts.eq e d) (without_spans (entry_tree e) ≡ without_spans (entry_tree d))
entry_decides e d =
    let format = option_decides format_impl.ghosts.eq entry_format_tree format_decides e.format d.format in
    let rest = Decides-and _ _ (value_decides e.value d.value) (Decides-and _ _ (name_decides e.name d.name) format) in
    Decides-like _ (λ (ty, (value, (name, form))). cc)
    (λ h. (ap (λ x. x.ty) h, (ap (λ x. x.value) h, (ap (λ x. x.name) h, ap (λ x. x.format) h))))
    (Decides-and _ _ (name_decides e.ty d.ty) rest)
