mod Items
mod Laws
mod Projects
mod RgbLaws
mod Rows
