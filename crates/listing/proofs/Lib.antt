mod Cutting
mod Laying
mod Taking
