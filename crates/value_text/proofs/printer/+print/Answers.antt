use Rattle.std.proofs.Common.{◌≡◌, ◌∙◌, ◌+◌, ◌++◌, append_assoc, List, [], ◌∷◌, ap, sym, map, take, drop, rules, subst, OnOk}
use Rattle.typed_value.specs.declared.value.Value.{the_lemmas}
use Rattle.typed_value.specs.Values.{Plain, map_of, record_of}
use Rattle.typed_value.specs.View.{names_in, pair_of, pairs_of, vals_in, vals_of, value}
use Rattle.value_text.specs.Tokens.{Token, bits, mark, name, written}
use Rattle.value_text.specs.Text.{entries, fields, hidden_entry, items, name_of, separated, text_of, tokens}
use Rattle.value_text.specs.TextLaws.{put-item, put-some, put-then, separated_from}
use Rattle.value_text.proofs.Lists.{next-item, put-between}
use Rattle.value_text.proofs.printer.+print.Goals as goal

pub put_value-returns-in-Record : goal.put_value-returns-in-Record
put_value-returns-in-Record t c =
    let r = c.in-Record.record in
    let x = c.args.text.now.items in
    let seen : value c.args.shown.now ≡ record_of r.name (names_in (map pair_of r.fields)) (vals_in (map pair_of r.fields)) =
    rw c.in-Record.is (search (the_lemmas, rules)) in
    let same : record_of r.name (names_in (map pair_of c.as_slice.result.now)) (vals_in (map pair_of c.as_slice.result.now)) ≡ value c.args.shown.now =
    ap (λ z. record_of r.name (names_in (map pair_of z)) (vals_in (map pair_of z))) c.as_slice.ensures ∙ sym seen in
    let P : Plain → Type 0 = λ v. OnOk c.put_record.result (c.put_record.new.text.items ≡ x ++ text_of v) in
    subst P same c.put_record.ensures

pub put_value-returns-in-Map : goal.put_value-returns-in-Map
put_value-returns-in-Map t c =
    let d = c.in-Map.dict in
    let x = c.args.text.now.items in
    let seen : value c.args.shown.now ≡ map_of tt (pairs_of (map pair_of d.pairs)) d.unknown =
    rw c.in-Map.is (search (the_lemmas, rules)) in
    let same : map_of tt (pairs_of (map pair_of c.as_slice-in-Map.result.now)) c.as_slice-in-Map-2.result.now ≡ value c.args.shown.now =
    (λ i. map_of tt (pairs_of (map pair_of (c.as_slice-in-Map.ensures i))) (c.as_slice-in-Map-2.ensures i)) ∙ sym seen in
    let P : Plain → Type 0 = λ v. OnOk c.put_map.result (c.put_map.new.text.items ≡ x ++ text_of v) in
    subst P same c.put_map.ensures

pub put_record-returns : goal.put_record-returns
put_record-returns t c =
    let fs = map pair_of c.args.shown.now in
    put-then c.args.text.now.items _ _ (name_of c.args.name.now) (mark 123 ∷ separated (fields (names_in fs) (vals_in fs)) ++ mark 125 ∷ [])
    c.in_ok-put_name.ensures
    (put-between _ _ _ _ 123 125 (separated (fields (names_in fs) (vals_in fs))) c.in_ok-put_byte.ensures c.in_ok-put_fields.ensures c.in_ok-put_byte-2.ensures)
    ∙ ap (λ ts. c.args.text.now.items ++ written ts) (sym (append_assoc (name_of c.args.name.now) (mark 123 ∷ separated (fields (names_in fs) (vals_in fs))) (mark 125 ∷ [])))

pub put_list-returns : goal.put_list-returns
put_list-returns t c =
    put-between c.args.text.now.items _ _ _ 91 93 (separated (items (vals_of (map value c.args.shown.now))))
    c.in_ok-put_byte.ensures c.in_ok-put_items.ensures c.in_ok-put_byte-2.ensures

pub put_ref-returns : goal.put_ref-returns
put_ref-returns t c =
    put-then c.args.text.now.items _ _ (mark 94 ∷ []) (tokens (value c.args.inner.now)) c.in_ok-put_byte.ensures c.in_ok-put_value.ensures

pub put_map-returns : goal.put_map-returns
put_map-returns t c =
    put-between c.args.text.now.items _ _ _ 60 62 (separated (entries (pairs_of (map pair_of c.args.pairs.now)) c.args.unknown.now))
    c.in_ok-put_byte.ensures c.in_ok-put_entries.ensures c.in_ok-put_byte-2.ensures

pub put_items-items-preserved : goal.put_items-items-preserved
put_items-items-preserved t c =
    let all = c.args.shown.now in
    let i = c.items.item-index in
    let v = c.item-item.result in
    let x = c.items.text.items in
    put-item c.items.is_first x _ _ (tokens (value v)) (items (vals_of (map value (drop (i + 1) all)))) c.in_ok-put_comma.ensures c.in_ok-put_value.ensures
    ∙ ap (λ l. x ++ written (separated_from c.items.is_first (items (vals_of (map value l))))) (sym (next-item all i v c.items-test.true c.item-item.is))
    ∙ c.items.invariant

pub put_fields-fields-preserved : goal.put_fields-fields-preserved
put_fields-fields-preserved t c =
    let all = c.args.shown.now in
    let i = c.fields.name-index in
    let f = c.fields-item.result in
    let x = c.fields.text.items in
    let later = map pair_of (drop (i + 1) all) in
    put-item c.fields.is_first x _ _ (name f.0 ∷ mark 58 ∷ tokens (value f.1)) (fields (names_in later) (vals_in later)) c.in_ok-put_comma.ensures
    (put-then _ _ _ (name f.0 ∷ mark 58 ∷ []) (tokens (value f.1)) c.in_ok-put_label.ensures c.in_ok-put_value.ensures)
    ∙ ap (λ l. x ++ written (separated_from c.fields.is_first (fields (names_in (map pair_of l)) (vals_in (map pair_of l)))))
    (sym (next-item all i f c.fields-test.true c.fields-item.is))
    ∙ c.fields.invariant

pub put_entries-pairs-preserved : goal.put_entries-pairs-preserved
put_entries-pairs-preserved t c =
    let all = c.args.pairs.now in
    let i = c.pairs.key-index in
    let p = c.pairs-item.result in
    let x = c.pairs.text.items in
    let us = c.pairs.left.now in
    let b = c.pairs.is_first in
    let later = pairs_of (map pair_of (drop (i + 1) all)) in
    let entry : List Token = bits p.0 ∷ mark 58 ∷ tokens (value p.1) in
    let hidden = map hidden_entry c.split_at.result.0.now in
    put-item c.in_ok-is_first.is_first _ _ _ entry (entries later c.split_at.result.1.now) c.in_ok-put_comma.ensures
    (put-then _ _ _ (bits p.0 ∷ mark 58 ∷ []) (tokens (value p.1)) c.in_ok-put_key.ensures c.in_ok-put_value.ensures)
    ∙ put-some b c.in_ok-is_first.is_first x _ hidden (entry ∷ entries later c.split_at.result.1.now) c.in_ok-is_first.ensures.0 c.in_ok-is_first.ensures.1
    ∙ (λ k. x ++ written (separated_from b (map hidden_entry (c.split_at.ensures.front k) ++ entry ∷ entries later (c.split_at.ensures.back k))))
    ∙ ap (λ n. x ++ written (separated_from b (map hidden_entry (take n us) ++ entry ∷ entries later (drop n us)))) c.count_before.ensures.value
    ∙ ap (λ l. x ++ written (separated_from b (entries (pairs_of (map pair_of l)) us))) (sym (next-item all i p c.pairs-test.true c.pairs-item.is))
    ∙ c.pairs.invariant
