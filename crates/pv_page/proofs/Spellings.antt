-- That pages, accounts and names are read as they are spelled.
use Rattle.std.proofs.Common.{refl, lit<}
use Rattle.pv_fields.specs.Reading.{Reads}
use Rattle.pv_fields.proofs.Readings.{Reads-byte, Reads-four, Reads-eight, Reads-at_most, Reads-within, ◌&◌, Reads-map}
use Rattle.pv_page.specs.{Names.{IsPage, IsAccount, IsName}, Spelling.{page_bytes, page_at, account_bytes, account_number_at, name_bytes, name_at}}
use Rattle.pv_page.specs.declared.{page_no.TheConstants.LAST_PAGE, account_no.TheConstants.LAST_ACCOUNT}
use Rattle.pv_page.specs.declared.frame_name.TheConstants.{FIRST_LETTER, LAST_LETTER}

-- a page
pub Reads-page : Reads IsPage page_bytes page_at
Reads-page = Reads-at_most LAST_PAGE (lit< tt) Reads-four

-- an account
pub Reads-account : Reads IsAccount account_bytes account_number_at
Reads-account = Reads-at_most LAST_ACCOUNT (lit< tt) Reads-eight

-- a name
pub Reads-name : Reads IsName name_bytes name_at
unfolding name_at
Reads-name =
    Reads-map _ (Reads-page & Reads-within FIRST_LETTER LAST_LETTER (lit< tt) Reads-byte)
    (record {
      has = λ x h. record { page = h.0; letter = h.1 };
      spell = λ x. refl;
      part = λ n h. ((n.page, n.letter), (h.page, h.letter), refl);
    })
