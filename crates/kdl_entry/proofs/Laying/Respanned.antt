-- What is laid is laid, whatever its spans, in whatever whole.
use Rattle.std.proofs.Common.{◌≡◌, Bool, false, Option, Some, None, option_map, subst, ap}
use Rattle.kdl_text.specs.Chars.{Text}
use Rattle.kdl_text.specs.declared.span.SourceSpan.{SourceSpan}
use Rattle.kdl_entry.specs.Laid.{LaidIdentifier, spelled, LaidType, no_type, a_type, LaidKey, no_key, a_key, LaidItem, item, LaidEntry, laid_entry}
use Rattle.kdl_entry.specs.Tree.{Identifier, Entry, without_span, without_spans}

module _ (exact : Bool) (whole other : Text) where
  pub free_identifier : {i : Identifier} {s r : Text} → LaidIdentifier exact whole i s r → LaidIdentifier false other i s r
  free_identifier (spelled d x) = spelled d tt

  pub free_type : {i : Option Identifier} {b a h s r : Text} → LaidType exact whole i b a h s r → LaidType false other i b a h s r
  free_type no_type = no_type
  free_type (a_type ss d us vs) = a_type ss (free_identifier d) us vs

  free_key : {i : Option Identifier} {b h s r : Text} → LaidKey exact whole i b h s r → LaidKey false other i b h s r
  free_key no_key = no_key
  free_key (a_key d ss us) = a_key (free_identifier d) ss us

  free_item : {q w s r : Text} {at : SourceSpan} {e : Entry} → LaidItem exact whole q w at e s r → LaidItem false other q w at e s r
  free_item (item k y d) = item (free_key k) (free_type y) d

  pub free_entry : {e : Entry} {s r : Text} → LaidEntry exact whole e s r → LaidEntry false other e s r
  free_entry (laid_entry l i x) = laid_entry l (free_item i) tt

-- what is laid with some spans is laid with others
module _ (whole : Text) where
  pub same_identifier : (i j : Identifier) {s r : Text} → without_span i ≡ without_span j → LaidIdentifier false whole i s r → LaidIdentifier false whole j s r
  same_identifier i j {s = s} {r = r} e (spelled d x) = subst (λ (k : Identifier). LaidIdentifier false whole (record k { span = j.span }) s r) e (spelled d tt)

  pub same_type : (i j : Option Identifier) {b a h s r : Text} → option_map without_span i ≡ option_map without_span j → LaidType false whole i b a h s r → LaidType false whole j b a h s r
  same_type None None e d = d
  same_type None (Some j) e d = cc
  same_type (Some i) None e d = cc
  same_type (Some i) (Some j) e (a_type ss d us vs) = let f : without_span i ≡ without_span j = cc in a_type ss (same_identifier i j f d) us vs

  same_key : (i j : Option Identifier) {b h s r : Text} → option_map without_span i ≡ option_map without_span j → LaidKey false whole i b h s r → LaidKey false whole j b h s r
  same_key None None e d = d
  same_key None (Some j) e d = cc
  same_key (Some i) None e d = cc
  same_key (Some i) (Some j) e (a_key d ss us) = let f : without_span i ≡ without_span j = cc in a_key (same_identifier i j f d) ss us

  same_item : {q w s r : Text} {at : SourceSpan} {e : Entry} (x : Entry) → without_spans e ≡ without_spans x → LaidItem false whole q w at e s r → LaidItem false whole q w x.span x s r
  same_item {q = q} {w = w} {s = s} {r = r} x e (item {key = key} {ty = ty} k y v) =
      subst (λ (z : Entry). LaidItem false whole q w x.span (record z { ty = x.ty; name = x.name; span = x.span }) s r) e
      (item (same_key key x.name (ap (λ (z : Entry). z.name) e) k) (same_type ty x.ty (ap (λ (z : Entry). z.ty) e) y) v)

  pub same_entry : {e : Entry} {s r : Text} (x : Entry) → without_spans e ≡ without_spans x → LaidEntry false whole e s r → LaidEntry false whole x s r
  same_entry x e (laid_entry l i a) = laid_entry l (same_item x e i) tt
