use Rattle.std.proofs.Common.{◌∙◌, arith}
use Rattle.opening.specs.Viewed.{code}
use Rattle.definitions.specs.MessageNumbers.{radix_product}
use Rattle.message_numbers.proofs.Products.{none_within, kept_within, data_within, check_within, product_is}
use Rattle.message_numbers.proofs.radix_product.Goals as goal

pub returns-in_err-data : goal.returns-in_err-data
returns-in_err-data c =
    let p = code c.args.code.now in
    let part = data_within p (omega arith) (omega arith) (omega arith) in
    none_within (radix_product p) c.from_residual.ensures (λ h. c.in_err-data.ensures (omega (arith, h, part)))

pub returns-in_err-check : goal.returns-in_err-check
returns-in_err-check c =
    let p = code c.args.code.now in
    let part = check_within p (omega arith) (omega arith) (omega arith) in
    none_within (radix_product p) c.from_residual-in_err-check.ensures (λ h. c.in_err-check.ensures (omega (arith, h, part)))

pub returns-in_err-product : goal.returns-in_err-product
returns-in_err-product c =
    let p = code c.args.code.now in
    let parts = product_is p (omega arith) c.in_ok-data.ensures.1 c.in_ok-check.ensures.1 in
    none_within (radix_product p) c.from_residual-in_err-product.ensures (λ h. c.in_err-product.ensures (omega (arith, h, parts)))

pub returns : goal.returns
returns c =
    let p = code c.args.code.now in
    let parts = product_is p (omega arith) c.in_ok-data.ensures.1 c.in_ok-check.ensures.1 in
    kept_within (radix_product p) c.in_ok-product.product (c.in_ok-product.ensures.1 ∙ parts) c.then_some.ensures
