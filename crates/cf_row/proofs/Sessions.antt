-- What a session is told of a row.
use Rattle.std.proofs.Common.{◌≡◌, List, ◌++◌, length, drop, refl, ap, sym, ◌∙◌}
use Rattle.std.proofs.lemmas.List.{drop_at, append_assoc}
use Rattle.cf_row.specs.declared.entry.Entry.{Entry}
use Rattle.cf_row.specs.Laws.{ToldIsTrue}

pub told_true : ToldIsTrue
told_true row seen entries begins stands =
    let behind : drop (length seen) row ≡ begins.rest = ap (drop (length seen)) begins.is ∙ drop_at seen begins.rest (length seen) refl in
    record {
      rest = stands.rest;
      is = begins.is ∙ ap (λ (l : List Entry). seen ++ l) (sym behind ∙ stands.is) ∙ sym (append_assoc seen entries stands.rest);
    }
