-- What crates above may cite: a charge line is read as it is spelled.
use Rattle.std.proofs.Common.{refl, lit<}
use Rattle.pv_fields.specs.Reading.{Reads}
use Rattle.pv_fields.proofs.Readings.{Reads-two, Reads-four, Reads-eight, Reads-at_most, ◌&◌, Reads-map}
use Rattle.pv_page.proofs.Spellings.{Reads-account, Reads-name}
use Rattle.pv_charge.specs.Line.{IsCharge, charge_bytes, charge_at}
use Rattle.pv_charge.specs.declared.line.TheConstants.{MAX_PRICE, LAST_MOMENT}

-- a charge line
pub Reads-charge : Reads IsCharge charge_bytes charge_at
unfolding charge_at charge_bytes
Reads-charge =
    Reads-map _
    (Reads-eight & Reads-four & Reads-account & Reads-name & Reads-at_most MAX_PRICE (lit< tt) Reads-two
    & Reads-at_most LAST_MOMENT (lit< tt) Reads-four)
    (record {
      has = λ x h. record { serial = h.0; number = h.1.0; account = h.1.1.0; name = h.1.1.1.0; price = h.1.1.1.1.0; moment = h.1.1.1.1.1 };
      spell = λ x. refl;
      part = λ l h. (
        (l.serial, (l.number, (l.account, (l.name, (l.price, l.moment))))),
        (h.serial, (h.number, (h.account, (h.name, (h.price, h.moment))))),
        refl,
      );
    })
