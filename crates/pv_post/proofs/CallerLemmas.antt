-- What a proof in a crate above may cite: items are read as they are spelled, and what waits after one place or removal more.
use Rattle.std.proofs.Common.{◌≡◌, ℕ, zero, suc, List, ◌++◌, Some, refl, lit<, arith}
use Rattle.std.specs.List.{list_all}
use Rattle.std.proofs.lemmas.List.Elements.{All-from_recursion, recursion_from_All}
use Rattle.pv_fields.specs.Reading.{Reads}
use Rattle.pv_fields.proofs.Readings.{Reads-passing, Reads-four, Reads-run, Reads-at_most, ◌&◌, Reads-map, Reads-cases, FindsCase, finds_none, finds_case, case_again, Reads-list, Reads-text}
use Rattle.pv_page.proofs.Spellings.{Reads-account, Reads-name}
use Rattle.pv_charge.specs.declared.line.TheConstants.{LAST_MOMENT}
use Rattle.pv_charge.proofs.CallerLemmas.{Reads-charge}
use Rattle.pv_post.specs.Item.{is_field_byte, IsFilled, filled_bytes, filled_at, AreFields, fields_bytes, fields_at, IsResponse, response_bytes, response_at, is_text_cell, IsMessage, message_bytes, message_at}
use Rattle.pv_post.specs.Spelling.{IsItem, item_tag, item_body, item_bytes, item_after, item_at}
use Rattle.pv_post.specs.declared.item.Item.{Item}
use Rattle.pv_post.specs.declared.item.Item.TheVariants.{Charge, Reply, Mail}
use Rattle.pv_post.specs.declared.fields.TheConstants.{MAX_FIELDS}
use Rattle.pv_post.specs.declared.filled.TheConstants.{FILLED_BYTES}
use Rattle.pv_post.specs.declared.mail.TheConstants.{TEXT_CELLS}
use Rattle.pv_post.proofs.Filling.{IsBytes-filled, IsBytes-text}
pub use Rattle.pv_post.proofs.Waiting.{left-earlier, waiting-arrivals, waiting-removed}

-- a filled field
Reads-filled : Reads IsFilled filled_bytes filled_at
unfolding filled_at
Reads-filled =
    let reads = Reads-passing (list_all is_field_byte) (Reads-text 0 FILLED_BYTES (lit< tt)) in
    record {
      found = λ bytes text rest fits e. let f = reads.found bytes text rest fits e in (record { fits = f.0.0.1.1; bytes = f.0.1 }, f.1);
      again = λ text rest ends has. reads.again text rest ends ((IsBytes-filled text has.bytes, (omega arith, has.fits)), has.bytes);
    }

-- the fields of a frame
Reads-fields : Reads AreFields fields_bytes fields_at
unfolding fields_at fields_bytes
Reads-fields =
    let reads = Reads-list 1 MAX_FIELDS (lit< tt) Reads-filled in
    record {
      found = λ bytes fields rest fits e. let f = reads.found bytes fields rest fits e in
          (record { filled = All-from_recursion IsFilled fields f.0.0; some = f.0.1.0; fit = f.0.1.1 }, f.1);
      again = λ fields rest ends has. reads.again fields rest ends
          (recursion_from_All IsFilled fields has.filled, (has.some, has.fit));
    }

-- a reply
Reads-response : Reads IsResponse response_bytes response_at
unfolding response_at response_bytes
Reads-response =
    Reads-map _ (Reads-account & Reads-name & Reads-at_most LAST_MOMENT (lit< tt) Reads-four & Reads-fields)
    (record {
      has = λ x h. record { account = h.0; name = h.1.0; moment = h.1.1.0; fields = h.1.1.1 };
      spell = λ x. refl;
      part = λ r h. ((r.account, (r.name, (r.moment, r.fields))), (h.account, (h.name, (h.moment, h.fields))), refl);
    })

-- a letter
Reads-message : Reads IsMessage message_bytes message_at
unfolding message_at message_bytes
Reads-message =
    Reads-map _
    (Reads-account & Reads-account & Reads-at_most LAST_MOMENT (lit< tt) Reads-four & Reads-passing (list_all is_text_cell)
    (Reads-run TEXT_CELLS))
    (record {
      has = λ x h. record { sender = h.0; to = h.1.0; moment = h.1.1.0; size = h.1.1.1.0.0; text = h.1.1.1.1 };
      spell = λ x. refl;
      part = λ m h. (
        (m.sender, (m.to, (m.moment, m.text))),
        (
          h.sender,
          (
            h.to,
            (
              h.moment,
              (
                (h.size, IsBytes-text m.text h.text),
                h.text,
              ),
            ),
          ),
        ),
        refl,
      );
    })

-- what is found after each tag
finds : (tag : ℕ) → FindsCase IsItem item_tag item_body tag (item_after tag)
finds zero = finds_none 0
finds (suc zero) = finds_case Charge 1 Reads-charge (λ line has. ((has, refl), refl))
finds (suc (suc zero)) = finds_case Reply 2 Reads-response (λ reply has. ((has, refl), refl))
finds (suc (suc (suc zero))) = finds_case Mail 3 Reads-message (λ mail has. ((has, refl), refl))
finds (suc (suc (suc (suc other)))) = finds_none (suc (suc (suc (suc other))))

-- each item is found after its tag
again : (item : Item) (rest : List ℕ) → Unit {0} → IsItem item → item_after (item_tag item) (item_body item ++ rest) ≡ Some (item, rest)
again (Charge line) rest ends has = case_again Charge Reads-charge line rest ends has
again (Reply reply) rest ends has = case_again Reply Reads-response reply rest ends has
again (Mail mail) rest ends has = case_again Mail Reads-message mail rest ends has

-- an item
pub Reads-item : Reads IsItem item_bytes item_at
unfolding item_at item_bytes
Reads-item = Reads-cases IsItem item_tag item_body item_after finds again
