use Rattle.kdl_laws.proofs.KeptForms as forms
use Rattle.kdl_laws.proofs.layout.empty_form_does_not_read.Goals as goal

pub returns : goal.returns
returns c = forms.empty_form_does_not_read
