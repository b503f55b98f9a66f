-- The parts of a frame are read as they are spelled.
use Rattle.std.proofs.lemmas.{Grind.common_steps, Bool.le-ltb, List.{append-nil, take_at, drop_at}}
use Rattle.std.proofs.Common.{◌≡◌, ℕ, length, Some, refl, arith, length-append}
use Rattle.pv_frame.proofs.Vocabulary.{Reads, ReadsLast, run_at, TITLE_CELLS, BODY_CELLS, ROUTES_SIZE, IsRaw, raw_bytes, raw_at, all_at}
use Rattle.pv_fields.proofs.Readings.{Reads-byte, Reads-two, Reads-run, Reads-rest, Reads-map, ◌&◌}

-- cells of a fixed length, whatever they are
Reads-cells : (n : ℕ) → Reads (λ cells. length cells ≡ n) (λ cells. cells) (run_at n)
Reads-cells n = grind (arith, common_steps, Reads-run, drop_at, le-ltb, length-append, take_at)

-- all the rest
Reads-all : ReadsLast (λ bytes. Unit {0}) (λ bytes. bytes) all_at
Reads-all = Reads-rest (λ bytes. Unit {0}) (λ bytes. bytes) Some (λ bytes rest fits is. (tt, cc)) (λ bytes has. refl)

pub Reads-raw : ReadsLast IsRaw raw_bytes raw_at
unfolding raw_at
Reads-raw =
    Reads-map _
    (Reads-cells TITLE_CELLS & Reads-cells BODY_CELLS & Reads-byte & Reads-run ROUTES_SIZE & Reads-byte & Reads-two & Reads-byte &
    Reads-all)
    (record {
      has = λ x h. record {
        title = h.0;
        body = h.1.0;
        kind = h.1.1.0;
        routes = h.1.1.1.0;
        price = h.1.1.1.1.0;
        group = h.1.1.1.1.1.0;
        count = h.1.1.1.1.1.1.0;
      };
      spell = λ x. simp append-nil;
      part = λ r h. (
        (r.title, (r.body, (r.kind, (r.routes, (r.price, (r.group, (r.count, r.fields))))))),
        (h.title, (h.body, (h.kind, (h.routes, (h.price, (h.group, (h.count, tt))))))),
        refl,
      );
    })
